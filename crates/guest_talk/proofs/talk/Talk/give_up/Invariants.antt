use Rattle.fuse_request.specs.Act.{asked}
use Rattle.guest_talk.specs.Events.{talk_events}
use Rattle.guest_talk.specs.GivingUp.{given_up}
use Rattle.guest_talk.proofs.talk.Talk.give_up.Given as goal

abbrev pub ghost-note_request : goal.ghost-note_request
ghost-note_request g a = talk_events a._count (given_up (asked a._request.now) a._now)
