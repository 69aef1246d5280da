use Rattle.fuse_guest.proofs.Agreeing as agreeing
use Rattle.fuse_guest.proofs.laws.has_reply.Goals as goal

pub returns : goal.returns
returns c = agreeing.has_reply
