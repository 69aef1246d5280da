-- The messages of a stream, one after the other (defined by this project).
use Rattle.std.specs.Prelude.{◌≡◌, ◌⊎◌, ◌+◌, ◌*◌, ℕ, List, [], length, All, Option, Some, None, IfSome, Result, Ok, Err}
use Rattle.std.specs.Io.KnownBytes.{Consumes, prepend_known, IsAtEnd}
use Rattle.fuse_wire.specs.Bounds.{max_message_len}
use Rattle.fuse_request.specs.declared.framer.FrameFault.{FrameFault}
use Rattle.fuse_request.specs.Stream.{cut, joined, IsMessage}
use Rattle.fuse_request.specs.Framing.{end_fault, HasNone}
use Rattle.fuse_commands.specs.declared.ending.Ending.{Ending}
use Rattle.fuse_commands.specs.declared.messages.Messages.{Messages}
use Rattle.fuse_commands.specs.declared.messages.Placed.{Placed}
use Rattle.fuse_commands.specs.Endings.{stream_ending}
use Rattle.fuse_commands.specs.Messages.{stream_fault}
use Rattle.fuse_commands.specs.inner.Failing.{GaveOut}
use Rattle.fuse_commands.specs.inner.Input.{left_to}

-- the rest of the stream, if known
abbrev pub left_in : {R : Type 0} → (R → Option (List ℕ)) → Messages R → Option (List ℕ)
left_in remaining m = prepend_known m.framer.bytes (left_to remaining m.pieces)

-- the offset of the rest
abbrev pub place_in : {R : Type 0} → Messages R → ℕ
place_in m = m.framer.at

-- a bound on the steps left: a piece for each read left, and the bytes held
abbrev pub work_in : {R : Type 0} → Messages R → ℕ
work_in m = (max_message_len + 1) * m.pieces.reads_left + length m.framer.bytes

-- a message was returned, at the offset where those before it end
pub record GaveMessage (old new : Option (List ℕ)) (at at' : ℕ) (placed : Placed) : Type 0 where
  pub message : IsMessage placed.bytes
  pub left : Consumes old new placed.bytes
  pub here : placed.at ≡ at
  pub place : at' ≡ at + length placed.bytes

-- the rest has no whole message, and this fault
pub record HasFault (left : Option (List ℕ)) (at : ℕ) (ending : Ending) : Type 0 where
  pub fault : FrameFault
  pub same : ending ≡ stream_ending fault
  pub here : IfSome left (λ rest. HasNone rest × (end_fault at rest ≡ Some fault))

-- the end of a stream with this rest
abbrev pub EndsSo : ℕ → List ℕ → Result (Option Placed) Ending → Type 0
EndsSo at rest (Ok placed) = (placed ≡ None) × (rest ≡ [])
EndsSo at rest (Err ending) = (fault : FrameFault) × (ending ≡ stream_ending fault) × (end_fault at rest ≡ Some fault)

-- the next message of the rest from an offset on
abbrev pub GivesPlaced : Option (List ℕ) → Option (List ℕ) → ℕ → ℕ → Result (Option Placed) Ending → Type 0
GivesPlaced old new at at' (Ok (Some placed)) = GaveMessage old new at at' placed
GivesPlaced old new at at' (Ok None) = IsAtEnd old
GivesPlaced old new at at' (Err ending) = GaveOut ending ⊎ HasFault old at ending

-- these messages were returned so far
pub record GaveSome (stream left : Option (List ℕ)) (at : ℕ) (messages : List (List ℕ)) : Type 0 where
  pub left_is : Consumes stream left (joined messages)
  pub each : All IsMessage messages
  pub place : at ≡ length (joined messages)

-- P holds of the messages returned so far
pub record WentSoFar (stream left : Option (List ℕ)) (at : ℕ) (P : List (List ℕ) → Type 0) : Type 0 where
  pub messages : List (List ℕ)
  pub gave : GaveSome stream left at messages
  pub so : P messages

-- P holds of all messages of the stream, or the stream was not read to its end
abbrev pub WentThrough : Option (List ℕ) → (List (List ℕ) → Type 0) → Result (Unit {0}) Ending → Type 0
WentThrough known P (Ok _) = IfSome known (λ stream. (stream_fault stream ≡ None) × P (cut stream).0)
WentThrough known P (Err ending) =
    GaveOut ending ⊎ ((fault : FrameFault) × (ending ≡ stream_ending fault) × IfSome known (λ stream. (stream_fault stream ≡ Some fault) × P (cut stream).0))
