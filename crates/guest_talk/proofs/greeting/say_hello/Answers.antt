use Rattle.std.proofs.Common.{subst, ap, ◌∙◌}
use Rattle.std.specs.Io.KnownBytes.{Appends}
use Rattle.guest_frames.specs.Frames.{frame_bytes, of_hello}
use Rattle.guest_talk.proofs.Handed.{hello_is}
use Rattle.guest_talk.proofs.greeting.say_hello.Goals as goal

pub returns-in-Ok-write_bytes-clause-ok : goal.returns-in-Ok-write_bytes-clause-ok
returns-in-Ok-write_bytes-clause-ok g c =
    let same = hello_is c.agreed_by.result c.args.settings c.args.pledged c.agreed_by.ensures in
    let sent = rw c.deref.ensures.value at c.in-Ok-write_bytes.ensures.ok in
    subst (Appends (g.W.Write.contents c.args.sink.now) (g.W.Write.contents c.write_bytes.new.sink))
    (c.in-Ok.ensures.ok.bytes ∙ ap (λ h. frame_bytes (of_hello h)) same) sent
