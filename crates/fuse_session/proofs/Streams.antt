-- One call of a port over a reader and a writer.
use Rattle.std.proofs.Common.{◌≡◌, ℕ, List, Option, refl}
use Rattle.fuse_session.specs.declared.stream.StreamPort.{StreamPort}
use Rattle.fuse_session.specs.declared.port.Received.{Received as Receipt}
use Rattle.fuse_session.specs.declared.port.Sent.{Sent}
use Rattle.fuse_session.specs.Calls.{WasRead, WasSent, stream_read}
use Rattle.fuse_session.specs.StreamSteps.{Sides, told_by, StreamSteps}
use Rattle.fuse_session.specs.Port.{Receives, Sends}
use Rattle.fuse_session.specs.Transcript.{one_receive, one_send}

pub stream_gave : {R W : Type 0} (s : Sides R W) (a b : StreamPort R W) (result : Receipt) (buffer : List ℕ) (old new : Option (List ℕ))
    → b.writer ≡ a.writer → Receives (told_by s a) (told_by s b) result buffer → WasRead (s.was_read a.reader b.reader) stream_read old new result buffer
    → StreamSteps s a b (one_receive result buffer)
stream_gave s a b result buffer old new writer receives read = (
  b,
  record { buffer = buffer; came = refl; receives = receives; read = read.read; was = read.was; is = read.is; writer = writer },
  refl,
)

pub stream_took : {R W : Type 0} (s : Sides R W) (a b : StreamPort R W) (slice : List ℕ) (result : Sent) → b.reader ≡ a.reader
    → Sends (told_by s a) (told_by s b) result slice → WasSent s.was_written s.was_flushed a.writer b.writer result slice
    → StreamSteps s a b (one_send slice result)
stream_took s a b slice result reader sends written = (b, record { sends = sends; written = written; reader = reader }, refl)
