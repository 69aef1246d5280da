use Rattle.fuse_plan.proofs.Agreeing as agreeing
use Rattle.fuse_plan.proofs.laws.tree_kept.Goals as goal

pub returns : goal.returns
returns c = agreeing.tree_kept
