-- How a turn ends a session (defined by this project).
use Rattle.std.specs.Prelude.{◌≡◌, ℕ, Bool, true, false, Option, Some}
use Rattle.fuse_request.specs.declared.framer.FrameFault.{FrameFault}
use Rattle.fuse_session.specs.declared.ended.Ended.{Ended}
use Rattle.fuse_session.specs.declared.ended.Ended.TheVariants.{End, Destroyed, Turns, Frame, ZeroUnique, PortFailed, Store, Memory}
use Rattle.fuse_session.specs.declared.group.Next.{Next}
use Rattle.fuse_session.specs.declared.group.Next.TheVariants.{GoesOn as GoesOnHere, Destroyed as ByDestroy, ZeroUnique as ByZero}
use Rattle.fuse_session.specs.declared.fault.Fault.{Fault}
use Rattle.fuse_session.specs.declared.fault.Fault.TheVariants.{PortFailed as ByPort, Store as ByStore, Memory as ByMemory}

-- how a session ends by a fault
abbrev pub ended_at : Fault → Ended
ended_at ByPort = PortFailed
ended_at (ByStore fault) = Store fault
ended_at ByMemory = Memory

-- the port ended it
abbrev pub ended_port : Ended → Bool
ended_port End = false
ended_port Destroyed = false
ended_port Turns = false
ended_port (Frame f) = false
ended_port (ZeroUnique at) = false
ended_port PortFailed = true
ended_port (Store fault) = false
ended_port Memory = false

-- a fault ended it
abbrev pub IsFault : Ended → Type 0
IsFault PortFailed = Unit {0}
IsFault (Store fault) = Unit {0}
IsFault Memory = Unit {0}
IsFault _ = ⊥

-- the end of the session, where messages were processed
abbrev pub FinishedBy : Ended → Next → ℕ → Option FrameFault → Type 0
FinishedBy Destroyed rest place fault = rest ≡ ByDestroy
FinishedBy (ZeroUnique at) rest place fault = (rest ≡ ByZero) × (at ≡ place)
FinishedBy (Frame f) rest place fault = (rest ≡ GoesOnHere) × (fault ≡ Some f)
FinishedBy _ rest place fault = ⊥
