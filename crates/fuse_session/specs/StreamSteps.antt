-- What the calls of a port over a reader and a writer did to its two sides (defined by this project).
use Rattle.std.specs.Prelude.{◌≡◌, ℕ, List, Option, Result}
use Rattle.std.specs.declared.io.Error.{Error}
use Rattle.fuse_session.specs.declared.stream.StreamPort.{StreamPort}
use Rattle.fuse_session.specs.declared.port.Received.{Received as Receipt}
use Rattle.fuse_session.specs.declared.port.Sent.{Sent}
use Rattle.fuse_session.specs.Calls.{WasSent, stream_read}
use Rattle.fuse_session.specs.Port.{PortState, Receives, Sends}
use Rattle.fuse_session.specs.Stepping.{Chain}
use Rattle.fuse_session.specs.Stream.{stream_told}
use Rattle.fuse_session.specs.Transcript.{PortEvent, Received, Handed, bytes_got}

-- what is said of a reader and a writer: the bytes to come and those held, one read, one write and one flush
pub record Sides (R W : Type 0) : Type 1 where
  pub remaining : R → Option (List ℕ)
  pub contents : W → Option (List ℕ)
  pub was_read : R → R → Result ℕ Error → List ℕ → Type 0
  pub was_written : W → W → Result ℕ Error → List ℕ → Type 0
  pub was_flushed : W → W → Result (Unit {0}) Error → Type 0

abbrev pub sides : {R W : Type 0} → (R → Option (List ℕ)) → (W → Option (List ℕ)) → (R → R → Result ℕ Error → List ℕ → Type 0)
    → (W → W → Result ℕ Error → List ℕ → Type 0) → (W → W → Result (Unit {0}) Error → Type 0) → Sides R W
sides remaining contents was_read was_written was_flushed = record {
  remaining = remaining;
  contents = contents;
  was_read = was_read;
  was_written = was_written;
  was_flushed = was_flushed;
}

abbrev pub told_by : {R W : Type 0} → Sides R W → StreamPort R W → PortState
told_by s p = stream_told s.remaining s.contents p

-- a receive: the reader was read once, and the writer left alone
pub record StreamGives {R W : Type 0} (s : Sides R W) (a b : StreamPort R W) (result : Receipt) (bytes : List ℕ) : Type 0 where
  pub buffer : List ℕ
  pub came : bytes ≡ bytes_got result buffer
  pub receives : Receives (told_by s a) (told_by s b) result buffer
  pub read : Result ℕ Error
  pub was : s.was_read a.reader b.reader read buffer
  pub is : result ≡ stream_read read
  pub writer : b.writer ≡ a.writer

-- a send: the writer was written to once and then flushed once, and the reader left alone
pub record StreamTakes {R W : Type 0} (s : Sides R W) (a b : StreamPort R W) (slice : List ℕ) (result : Sent) : Type 0 where
  pub sends : Sends (told_by s a) (told_by s b) result slice
  pub written : WasSent s.was_written s.was_flushed a.writer b.writer result slice
  pub reader : b.reader ≡ a.reader

-- one call
abbrev pub StreamStep : {R W : Type 0} → Sides R W → StreamPort R W → StreamPort R W → PortEvent → Type 0
StreamStep s a b (Received result bytes) = StreamGives s a b result bytes
StreamStep s a b (Handed slice result) = StreamTakes s a b slice result

-- several calls, one after the other
abbrev pub StreamSteps : {R W : Type 0} → Sides R W → StreamPort R W → StreamPort R W → List PortEvent → Type 0
StreamSteps s a b events = Chain (StreamStep s) a b events
