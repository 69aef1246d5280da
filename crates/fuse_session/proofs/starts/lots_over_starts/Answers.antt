use Rattle.fuse_session.proofs.Starting.{over_starts}
use Rattle.fuse_session.proofs.starts.lots_over_starts.Goals as goal

pub returns : goal.returns
returns c = over_starts
