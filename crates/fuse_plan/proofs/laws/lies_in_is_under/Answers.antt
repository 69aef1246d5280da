use Rattle.fuse_plan.proofs.Under as under
use Rattle.fuse_plan.proofs.laws.lies_in_is_under.Goals as goal

pub returns : goal.returns
returns c = under.lies_in_is_under
