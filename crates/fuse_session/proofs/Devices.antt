-- One call of a port over a FUSE device.
use Rattle.std.proofs.Common.{◌≡◌, ℕ, List, Option, Result, refl}
use Rattle.std.specs.declared.io.Error.{Error}
use Rattle.fuse_session.specs.declared.device.DevicePort.{DevicePort}
use Rattle.fuse_session.specs.declared.port.Received.{Received as Receipt}
use Rattle.fuse_session.specs.declared.port.Sent.{Sent}
use Rattle.fuse_session.specs.Calls.{WasRead, WasWritten}
use Rattle.fuse_session.specs.Device.{read_told, write_told}
use Rattle.fuse_session.specs.DevicePort.{device_told, counted_gone}
use Rattle.fuse_session.specs.DeviceSteps.{DeviceSteps}
use Rattle.fuse_session.specs.Port.{Receives, Sends}
use Rattle.fuse_session.specs.Transcript.{one_receive, one_send}

pub device_gave : {R W : Type 0} (was_read : R → R → Result ℕ Error → List ℕ → Type 0) (was_written : W → W → Result ℕ Error → List ℕ → Type 0)
    (a b : DevicePort R W) (result : Receipt) (buffer : List ℕ) (old new : Option (List ℕ)) → b.writer ≡ a.writer
    → Receives (device_told a) (device_told b) result buffer → WasRead (was_read a.reader b.reader) read_told old new result buffer
    → DeviceSteps was_read was_written a b (one_receive result buffer)
device_gave was_read was_written a b result buffer old new writer receives read = (
  b,
  record { buffer = buffer; came = refl; receives = receives; read = read.read; was = read.was; is = read.is; writer = writer },
  refl,
)

pub device_took : {R W : Type 0} (was_read : R → R → Result ℕ Error → List ℕ → Type 0) (was_written : W → W → Result ℕ Error → List ℕ → Type 0)
    (a b : DevicePort R W) (slice : List ℕ) (result : Sent) (old new : Option (List ℕ)) → b.reader ≡ a.reader
    → Sends (device_told a) (device_told b) result slice
    → WasWritten (was_written a.writer b.writer) (λ write. counted_gone a.gone (write_told write)) old new result slice
    → DeviceSteps was_read was_written a b (one_send slice result)
device_took was_read was_written a b slice result old new reader sends write = (
  b,
  record { sends = sends; write = write.write; was = write.was; is = write.is; reader = reader },
  refl,
)
