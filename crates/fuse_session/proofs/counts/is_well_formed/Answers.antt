use Rattle.std.proofs.Common.{ap}
use Rattle.std.specs.Prelude.{is_none}
use Rattle.fuse_session.proofs.counts.is_well_formed.Goals as goal

pub returns-in-Ok : goal.returns-in-Ok
returns-in-Ok c = ap is_none c.in-Ok.ensures.fault
