use Rattle.fuse_plan.proofs.Looking.{looks_stay}
use Rattle.fuse_plan.proofs.laws.looks_stay.Goals as goal

pub returns : goal.returns
returns c = looks_stay
