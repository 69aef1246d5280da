use Rattle.guest_talk.proofs.Frames.{frame_long}
use Rattle.guest_talk.proofs.talk.Talk.tell.Goals as goal

pub send-requires : goal.send-requires
send-requires g c =
    let out = c.in-Ok.ensures.ok in record { long = rw out.written.bytes (frame_long c.numbers_read.ensures out.told) }
