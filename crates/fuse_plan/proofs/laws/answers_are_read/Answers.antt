use Rattle.fuse_plan.proofs.Fitting.{answers_read}
use Rattle.fuse_plan.proofs.laws.answers_are_read.Goals as goal

pub returns : goal.returns
returns c = answers_read c.read_back.ensures c.record_sizes.ensures
