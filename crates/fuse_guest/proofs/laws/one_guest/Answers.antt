use Rattle.fuse_guest.proofs.Agreeing as agreeing
use Rattle.fuse_guest.proofs.laws.one_guest.Goals as goal

pub returns : goal.returns
returns c = agreeing.one_guest
