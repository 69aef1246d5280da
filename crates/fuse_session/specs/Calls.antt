-- One call of a reader or a writer, and what a port answers by it (defined by this project).
use Rattle.std.specs.Prelude.{◌≡◌, ℕ, ◌==◌, if◌then◌else◌, List, Option, Result, Ok, Err}
use Rattle.std.specs.Io.{ReadsAtMost, WritesAtMost}
use Rattle.std.specs.Io.KnownBytes.{ReadConsumes, WriteAppends}
use Rattle.std.specs.declared.io.Error.{Error}
use Rattle.fuse_session.specs.declared.port.Received.{Received}
use Rattle.fuse_session.specs.declared.port.Received.TheVariants.{Got, End, Failed as ReceiveFailed}
use Rattle.fuse_session.specs.declared.port.Sent.{Sent}
use Rattle.fuse_session.specs.declared.port.Sent.TheVariants.{Took, Failed}

-- the reader was read once, and the port answers by the result of the read
pub record WasRead (once : Result ℕ Error → List ℕ → Type 0) (answer_by : Result ℕ Error → Received) (old new : Option (List ℕ)) (result : Received)
    (buffer : List ℕ) : Type 0 where
  pub read : Result ℕ Error
  pub was : once read buffer
  pub within : ReadsAtMost read buffer
  pub bytes : ReadConsumes old new read buffer
  pub is : result ≡ answer_by read

-- the writer was written to once, and the port answers by the result of the write
pub record WasWritten (once : Result ℕ Error → List ℕ → Type 0) (answer_by : Result ℕ Error → Sent) (old new : Option (List ℕ)) (result : Sent)
    (bytes : List ℕ) : Type 0 where
  pub write : Result ℕ Error
  pub was : once write bytes
  pub within : WritesAtMost write bytes
  pub appended : WriteAppends old new write bytes
  pub is : result ≡ answer_by write

-- the result of a receive from a reader, by that of the read
abbrev pub stream_read : Result ℕ Error → Received
stream_read (Ok n) = if n == 0 then End else Got n
stream_read (Err e) = ReceiveFailed

-- the result of a send of which so many bytes were written, by that of the flush
abbrev pub stream_flush : ℕ → Result (Unit {0}) Error → Sent
stream_flush n (Ok done) = Took n
stream_flush n (Err e) = Failed

-- a flush after a write, unless that one failed
abbrev pub IsFlushed : {W : Type 0} → (W → W → Result (Unit {0}) Error → Type 0) → W → W → Result ℕ Error → Sent → Type 0
IsFlushed flushed mid new (Ok n) result = (flush : Result (Unit {0}) Error) × flushed mid new flush × (result ≡ stream_flush n flush)
IsFlushed flushed mid new (Err e) result = (new ≡ mid) × (result ≡ Failed)

-- the writer was written to once and then flushed once
pub record WasSent {W : Type 0} (written : W → W → Result ℕ Error → List ℕ → Type 0) (flushed : W → W → Result (Unit {0}) Error → Type 0) (old new : W)
    (result : Sent) (bytes : List ℕ) : Type 0 where
  pub mid : W
  pub write : Result ℕ Error
  pub was : written old mid write bytes
  pub after : IsFlushed flushed mid new write result
