use Rattle.fuse_plan.proofs.Fitting as fitting
use Rattle.fuse_plan.proofs.laws.answers_fit.Goals as goal

pub returns : goal.returns
returns c = fitting.fits c.record_sizes.ensures
