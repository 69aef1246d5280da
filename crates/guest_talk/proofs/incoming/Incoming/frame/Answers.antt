use Rattle.guest_frames.specs.Borrowed.{guest_content}
use Rattle.guest_talk.proofs.Frames.{frame_is}
use Rattle.guest_talk.proofs.incoming.Incoming.frame.Goals as goal

pub returns-clause-frame : goal.returns-clause-frame
returns-clause-frame c =
    let found = rw c.deref.ensures.value at c.in-Ok.ensures.found in
    frame_is c.frames_stand.ensures c.args.self.now.kind c.args.self.now.payload.items (guest_content c.in-Ok.frame)
    c.in-Ok.ensures.kind found
