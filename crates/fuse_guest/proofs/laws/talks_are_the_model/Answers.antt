use Rattle.fuse_guest.proofs.Replaying as replaying
use Rattle.fuse_guest.proofs.laws.talks_are_the_model.Goals as goal

pub returns : goal.returns
returns c = record { one = replaying.one; state = replaying.state; answers = replaying.answers }
