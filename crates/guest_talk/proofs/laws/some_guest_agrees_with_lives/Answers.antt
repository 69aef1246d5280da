use Rattle.guest_talk.proofs.Lives.{some_guest}
use Rattle.guest_talk.proofs.laws.some_guest_agrees_with_lives.Goals as goal

pub returns : goal.returns
returns c = some_guest c.numbers_read.ensures c.frames_stand.ensures
