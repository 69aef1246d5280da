-- How HELLO and READY pass (defined by this project).
use Rattle.std.specs.Prelude.{ℕ, List, Option}
use Rattle.std.specs.Io.KnownBytes.{Consumes}
use Rattle.guest_frames.specs.declared.ready.Ready.{Ready}
use Rattle.guest_frames.specs.Frames.{of_ready, frame_bytes, IsFrame}
use Rattle.guest_talk.specs.Bytes.{ready_alone, ReadsFault}
use Rattle.guest_talk.specs.inner.Pipes.{IsPipeFault}
use Rattle.guest_talk.specs.declared.fault.GreetFault.{GreetFault}
use Rattle.guest_talk.specs.declared.fault.GreetFault.TheVariants as faults

-- READY was read
pub record ReadsReady (old new : Option (List ℕ)) (ready : Ready) : Type 0 where
  pub whole : IsFrame (of_ready ready)
  pub came : Consumes old new (frame_bytes (of_ready ready))

-- HELLO wasn't written
abbrev pub SaysNoHello : GreetFault → Type 0
SaysNoHello faults.Memory = Unit {0}
SaysNoHello (faults.Guest fault) = IsPipeFault fault
SaysNoHello (faults.Unserved opcode) = ⊥

-- READY wasn't read. What is pledged has not been looked at
abbrev pub ReadsNoReady : Option (List ℕ) → Option (List ℕ) → GreetFault → Type 0
ReadsNoReady old new faults.Memory = Unit {0}
ReadsNoReady old new (faults.Guest fault) = ReadsFault ready_alone old new fault
ReadsNoReady old new (faults.Unserved opcode) = ⊥
