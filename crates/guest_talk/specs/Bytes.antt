-- The bytes of conversations (defined by this project: the guest protocol, 'Frames').
use Rattle.std.specs.Prelude.{◌≡◌, ℕ, Bool, true, false, not, if◌then◌else◌, List, ◌++◌, length, take, drop, Option, Some, None, Result, Ok, Err}
use Rattle.std.specs.List.{flat_map}
use Rattle.std.specs.Io.KnownBytes.{Consumes}
use Rattle.guest_frames.specs.declared.fault.GuestFault.{GuestFault}
use Rattle.guest_frames.specs.declared.fault.GuestFault.TheVariants.{NotDue}
use Rattle.guest_frames.specs.declared.guest_head.GuestHead.{GuestHead}
use Rattle.guest_frames.specs.declared.guest_kind.GuestKind.{GuestKind}
use Rattle.guest_frames.specs.declared.guest_kind.GuestKind.TheVariants as kinds
use Rattle.guest_frames.specs.Kinds.{kind_number}
use Rattle.guest_frames.specs.Frames.{frame_bytes}
use Rattle.guest_frames.specs.Heads.{guest_head_in}
use Rattle.guest_frames.specs.Reading.{first_guest_fault}
use Rattle.fuse_guest.specs.declared.fault.TalkFault.{TalkFault}
use Rattle.fuse_guest.specs.declared.fault.TalkFault.TheVariants as faults
use Rattle.fuse_guest.specs.Talk.{Turn, Says, Fails}
use Rattle.fuse_guest.specs.Conversations.{Conversation}
use Rattle.guest_talk.specs.Events.{request_frame}

-- what the engine wrote about a request
abbrev pub bytes_told : ℕ → Conversation → List ℕ
bytes_told count c = frame_bytes (request_frame c.asked c.now count) ++ flat_map (λ t. frame_bytes t.told) c.trips

-- what the guest wrote before the last turn
abbrev pub bytes_asked : Conversation → List ℕ
bytes_asked c = flat_map (λ t. frame_bytes t.query) c.trips

-- ---- bytes that are no frame

-- the kinds that are due: READY after HELLO, and all others after REQUEST
abbrev pub Kinds : Type 0
Kinds = GuestKind → Bool

abbrev pub ready_alone : Kinds
ready_alone kinds.Ready = true
ready_alone _ = false

abbrev pub all_but_ready : Kinds
all_but_ready kind = not (ready_alone kind)

-- the fault of a head, of its kind that isn't due, or of the payload after it
abbrev pub fault_after : Kinds → Result (Option GuestHead) GuestFault → List ℕ → Option GuestFault
fault_after due (Err fault) b = Some fault
fault_after due (Ok None) b = None
fault_after due (Ok (Some head)) b = if due head.kind then first_guest_fault head.kind (drop 8 b) else Some (NotDue (kind_number head.kind))

abbrev pub frame_fault : Kinds → List ℕ → Option GuestFault
frame_fault due b = fault_after due (guest_head_in b) b

-- how many bytes show it: 4 a wrong length, 8 a kind that isn't due, and the whole frame what is wrong in its payload
abbrev pub len_shown : Kinds → Result (Option GuestHead) GuestFault → Result (Option GuestHead) GuestFault → ℕ
len_shown due (Err fault) head = 4
len_shown due (Ok known) (Ok (Some head)) = if due head.kind then head.len else 8
len_shown due (Ok known) _ = 8

abbrev pub len_of_fault : Kinds → List ℕ → ℕ
len_of_fault due b = len_shown due (guest_head_in (take 4 b)) (guest_head_in b)

-- no frame came: the pipe ended or no byte came in time, or these bytes came, which are none, and no more of them than show it
abbrev pub ReadsFault : Kinds → Option (List ℕ) → Option (List ℕ) → TalkFault → Type 0
ReadsFault due old new (faults.Frame fault) =
    (bytes : List ℕ) × (frame_fault due bytes ≡ Some fault) × (length bytes ≡ len_of_fault due bytes) × Consumes old new bytes
ReadsFault due old new faults.Ended = Unit {0}
ReadsFault due old new faults.Hangs = Unit {0}
ReadsFault due old new _ = ⊥

-- what was read for the last turn
abbrev pub ReadsTurn : Option (List ℕ) → Option (List ℕ) → Turn → Type 0
ReadsTurn old new (Says f) = Consumes old new (frame_bytes f)
ReadsTurn old new (Fails fault) = ReadsFault all_but_ready old new fault
