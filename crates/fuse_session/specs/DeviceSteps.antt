-- What the calls of a port over a FUSE device did to its two sides (defined by this project).
use Rattle.std.specs.Prelude.{◌≡◌, ℕ, List, Result}
use Rattle.std.specs.declared.io.Error.{Error}
use Rattle.fuse_session.specs.declared.device.DevicePort.{DevicePort}
use Rattle.fuse_session.specs.declared.port.Received.{Received as Receipt}
use Rattle.fuse_session.specs.declared.port.Sent.{Sent}
use Rattle.fuse_session.specs.Device.{read_told, write_told}
use Rattle.fuse_session.specs.DevicePort.{device_told, counted_gone}
use Rattle.fuse_session.specs.Port.{Receives, Sends}
use Rattle.fuse_session.specs.Stepping.{Chain}
use Rattle.fuse_session.specs.Transcript.{PortEvent, Received, Handed, bytes_got}

-- a receive: the reader was read once, and the writer left alone
pub record DeviceGives {R W : Type 0} (was_read : R → R → Result ℕ Error → List ℕ → Type 0) (a b : DevicePort R W) (result : Receipt)
    (bytes : List ℕ) : Type 0 where
  pub buffer : List ℕ
  pub came : bytes ≡ bytes_got result buffer
  pub receives : Receives (device_told a) (device_told b) result buffer
  pub read : Result ℕ Error
  pub was : was_read a.reader b.reader read buffer
  pub is : result ≡ read_told read
  pub writer : b.writer ≡ a.writer

-- a send: the writer was written to once, and the reader left alone
pub record DeviceTakes {R W : Type 0} (was_written : W → W → Result ℕ Error → List ℕ → Type 0) (a b : DevicePort R W) (slice : List ℕ)
    (result : Sent) : Type 0 where
  pub sends : Sends (device_told a) (device_told b) result slice
  pub write : Result ℕ Error
  pub was : was_written a.writer b.writer write slice
  pub is : result ≡ counted_gone a.gone (write_told write)
  pub reader : b.reader ≡ a.reader

-- one call
abbrev pub DeviceStep : {R W : Type 0} → (R → R → Result ℕ Error → List ℕ → Type 0) → (W → W → Result ℕ Error → List ℕ → Type 0)
    → DevicePort R W → DevicePort R W → PortEvent → Type 0
DeviceStep was_read was_written a b (Received result bytes) = DeviceGives was_read a b result bytes
DeviceStep was_read was_written a b (Handed slice result) = DeviceTakes was_written a b slice result

-- several calls, one after the other
abbrev pub DeviceSteps : {R W : Type 0} → (R → R → Result ℕ Error → List ℕ → Type 0) → (W → W → Result ℕ Error → List ℕ → Type 0)
    → DevicePort R W → DevicePort R W → List PortEvent → Type 0
DeviceSteps was_read was_written a b events = Chain (DeviceStep was_read was_written) a b events
