use Rattle.fuse_plan.proofs.Mounts as mounts
use Rattle.fuse_plan.proofs.laws.clearing.Goals as goal

pub returns : goal.returns
returns c = mounts.clearing
