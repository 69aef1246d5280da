-- The state of a port over a FUSE device (defined by this project).
use Rattle.std.specs.Prelude.{ℕ, nat_lt, ◌-◌, ◌^◌, ◌==◌, if◌then◌else◌, true, replicate, None}
use Rattle.fuse_session.specs.declared.device.DevicePort.{DevicePort}
use Rattle.fuse_session.specs.declared.port.Sent.{Sent}
use Rattle.fuse_session.specs.declared.port.Sent.TheVariants.{Took, Gone, Failed}
use Rattle.fuse_session.specs.Port.{PortState}

-- the bytes of a device aren't known, and so each place in them may be any number
abbrev pub device_told : {R W : Type 0} → DevicePort R W → PortState
device_told p = record {
  coming = None;
  sent = None;
  receives = p.receives;
  has_ended = nat_lt 0 p.ends;
  ends = p.ends;
  failures = p.failures;
  receive_failures = p.receive_failures;
  confirms = true;
  gone = replicate p.gone 0;
}

-- a slice that nobody waits for is Gone, unless 2^64 - 1 slices were before
abbrev pub counted_gone : ℕ → Sent → Sent
counted_gone before Gone = if before == 2 ^ 64 - 1 then Failed else Gone
counted_gone before (Took n) = Took n
counted_gone before Failed = Failed
