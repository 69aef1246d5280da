use Rattle.fuse_guest.proofs.Replaying as replaying
use Rattle.fuse_guest.proofs.laws.premise_is_met.Goals as goal

pub returns : goal.returns
returns c = replaying.premise_is_met
