use Rattle.fuse_request.proofs.Classes.{sees_by}
use Rattle.fuse_request.proofs.laws.seen_by_class.Goals as goal

pub returns : goal.returns
returns c = sees_by
