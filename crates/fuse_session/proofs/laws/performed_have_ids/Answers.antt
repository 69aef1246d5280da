use Rattle.fuse_session.proofs.Gathering.{has_id}
use Rattle.fuse_session.proofs.laws.performed_have_ids.Goals as goal

pub returns : goal.returns
returns c = has_id
