use Rattle.std.proofs.Common.{subst}
use Rattle.guest_frames.specs.Borrowed.{answer_content}
use Rattle.guest_frames.specs.Frames.{IsRightAnswer}
use Rattle.guest_talk.proofs.Frames.{said_is}
use Rattle.guest_talk.proofs.guest_answer.GuestAnswer.content.Goals as goal

pub returns-clause-said : goal.returns-clause-said
returns-clause-said c =
    let found = rw (c.deref.ensures.value, c.in-Ok-Answer.field-0-is) at c.in-Ok-Answer.ensures.found in
    said_is c.frames_stand.ensures c.args.self.now.payload.items (answer_content c.in-Ok-Answer.answer) found

pub returns-clause-right : goal.returns-clause-right
returns-clause-right c =
    let found = rw (c.deref.ensures.value, c.in-Ok-Answer.field-0-is) at c.in-Ok-Answer.ensures.found in
    subst IsRightAnswer
    (said_is c.frames_stand.ensures c.args.self.now.payload.items (answer_content c.in-Ok-Answer.answer) found) found.within
