-- The bytes that were received, and the messages that wait then (defined by this project).
use Rattle.std.specs.Prelude.{◌≡◌, ◌<◌, ◌≤◌, ◌+◌, ℕ, List, [], ◌∷◌, ◌++◌, length, All, Option, Some, None}
use Rattle.std.specs.Io.KnownBytes.{Consumes}
use Rattle.fuse_request.specs.declared.framer.FrameFault.{FrameFault}
use Rattle.fuse_wire.specs.Bounds.{max_message_len}
use Rattle.fuse_request.specs.Stream.{cut, joined, IsMessage}
use Rattle.fuse_request.specs.Framing.{HeldBytes, HasNone, bad_length, end_fault}
use Rattle.fuse_session.specs.declared.ended.Ended.{Ended}
use Rattle.fuse_session.specs.declared.ended.Ended.TheVariants.{End as ByEnd, Destroyed, Turns, Frame, ZeroUnique, PortFailed, Store, Memory}
use Rattle.fuse_session.specs.Port.{PortState, HasEnded}
use Rattle.fuse_session.specs.declared.port.Received.{Received as Receipt}
use Rattle.fuse_session.specs.declared.port.Received.TheVariants.{End, Failed as ReceiveFailed}
use Rattle.fuse_session.specs.Transcript.{PortEvent, Received, Gave}

-- it returned no fault so far, and its bytes begin with neither a whole message nor a bad length
pub record IsOpen (h : HeldBytes) : Type 0 where
  pub fault : h.fault ≡ None
  pub none : HasNone h.bytes
  pub good : bad_length h.at h.bytes ≡ None
  pub short : length h.bytes < max_message_len

-- all messages were taken, and the bytes after them have this bad length, if they have one
pub record TookAll (old new : HeldBytes) (messages : List (List ℕ)) (fault : Option FrameFault) : Type 0 where
  pub cut_is : cut old.bytes ≡ (messages, new.bytes)
  pub at : new.at ≡ old.at + length (joined messages)
  pub each : All IsMessage messages
  pub few : length messages ≤ length (joined messages)
  pub bad : bad_length new.at new.bytes ≡ fault
  pub opened : fault ≡ None → IsOpen new

-- receiving leaves these as they were
pub record IsHearing (old new : PortState) : Type 0 where
  pub sent : new.sent ≡ old.sent
  pub receives : new.receives ≡ old.receives + 1
  pub confirms : new.confirms ≡ old.confirms
  pub gone : new.gone ≡ old.gone

-- bytes came by one receive, which neither failed nor ended
pub record Comes (became : List PortEvent → Type 0) (old new : PortState) (received : List ℕ) : Type 0 where
  pub result : Receipt
  pub once : became (Received result received ∷ [])
  pub gave : Gave (Received result received)
  pub bytes : Consumes old.coming new.coming received
  pub ends : new.ends ≡ old.ends
  pub has_ended : new.has_ended ≡ old.has_ended
  pub failures : new.failures ≡ old.failures
  pub receive_failures : new.receive_failures ≡ old.receive_failures

-- bytes came so, and these are the messages that wait then
pub record Heard (comes : List ℕ → Type 0) (before after : HeldBytes) (messages : List (List ℕ)) (fault : Option FrameFault) : Type 0 where
  pub received : List ℕ
  pub came : comes received
  pub took : TookAll (record before { bytes = before.bytes ++ received }) after messages fault

-- one receive said that the port has ended
pub record SaidEnd (became : List PortEvent → Type 0) (old new : PortState) : Type 0 where
  pub once : became (Received End [] ∷ [])
  pub has_ended : HasEnded new
  pub ends : new.ends ≡ old.ends + 1
  pub bytes : Consumes old.coming new.coming []
  pub failures : new.failures ≡ old.failures
  pub receive_failures : new.receive_failures ≡ old.receive_failures

-- one receive failed
pub record FailedOnce (became : List PortEvent → Type 0) (old new : PortState) : Type 0 where
  pub once : became (Received ReceiveFailed [] ∷ [])
  pub ends : new.ends ≡ old.ends
  pub has_ended : new.has_ended ≡ old.has_ended
  pub bytes : Consumes old.coming new.coming []
  pub failures : old.failures < new.failures
  pub receive_failures : old.receive_failures < new.receive_failures

-- why nothing was heard
abbrev pub NotHeard : Ended → (List PortEvent → Type 0) → PortState → PortState → HeldBytes → Type 0
NotHeard ByEnd became old new h = SaidEnd became old new × (h.bytes ≡ [])
NotHeard (Frame f) became old new h = SaidEnd became old new × (end_fault h.at h.bytes ≡ Some f)
NotHeard PortFailed became old new h = FailedOnce became old new
NotHeard Memory became old new h = (received : List ℕ) × Comes became old new received
NotHeard Destroyed became old new h = ⊥
NotHeard Turns became old new h = ⊥
NotHeard (ZeroUnique at) became old new h = ⊥
NotHeard (Store fault) became old new h = ⊥

abbrev pub EndsReceiving : Ended → HeldBytes → Type 0
EndsReceiving ByEnd h = h.bytes ≡ []
EndsReceiving (Frame f) h = end_fault h.at h.bytes ≡ Some f
EndsReceiving _ h = ⊥
