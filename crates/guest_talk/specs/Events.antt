-- What passes the pipes of a guest while it is asked, and the conversations in it (defined by this project).
use Rattle.std.specs.Prelude.{◌≡◌, ◌+◌, ℕ, true, List, [], ◌∷◌, ◌++◌, drop}
use Rattle.std.specs.Int.{cast_signed, w64}
use Rattle.std.specs.List.{flat_map, AllByRecursion}
use Rattle.fuse_wire.specs.declared.moment.Moment.{Moment}
use Rattle.fuse_request.specs.Act.{Asked}
use Rattle.fuse_request.specs.Canon.{canon, sayable}
use Rattle.guest_frames.specs.declared.fault.GuestFault.{GuestFault}
use Rattle.guest_frames.specs.declared.fault.GuestFault.TheVariants as bad
use Rattle.guest_frames.specs.Frames.{Frame, of_request, frame_kind, frame_bytes, IsFrame}
use Rattle.guest_frames.specs.Kinds.{kind_number}
use Rattle.fuse_guest.specs.declared.fault.TalkFault.{TalkFault}
use Rattle.fuse_guest.specs.declared.fault.TalkFault.TheVariants as faults
use Rattle.fuse_guest.specs.Talk.{Guest, Turn, Says, Fails}
use Rattle.fuse_guest.specs.Conversations.{Trip, Conversation, AgreesOn, asks_more}

-- the kind of a frame and its payload; or the numbers of a fault, and no bytes
abbrev pub Event : Type 0
Event = List ℕ × List ℕ

abbrev pub event_of : List ℕ → List ℕ → Event
event_of numbers bytes = (numbers, bytes)

-- ---- frames and faults

abbrev pub frame_event : Frame → Event
frame_event f = (frame_kind f ∷ [], drop 8 (frame_bytes f))

abbrev pub bad_frame_numbers : GuestFault → List ℕ
bad_frame_numbers (bad.Length n) = 100 ∷ n ∷ []
bad_frame_numbers (bad.NotDue n) = 101 ∷ n ∷ []
bad_frame_numbers (bad.Malformed kind) = 102 ∷ kind_number kind ∷ []
bad_frame_numbers (bad.Key n) = 103 ∷ n ∷ []
bad_frame_numbers (bad.Value n) = 104 ∷ n ∷ []
bad_frame_numbers (bad.TooMany kind) = 105 ∷ kind_number kind ∷ []
bad_frame_numbers (bad.Version n) = 106 ∷ n ∷ []
bad_frame_numbers (bad.CannotBeSeen n) = 107 ∷ n ∷ []
bad_frame_numbers (bad.Error n) = 108 ∷ n ∷ []
bad_frame_numbers bad.ErrorWithChanges = 109 ∷ 0 ∷ []
bad_frame_numbers (bad.Change n) = 110 ∷ n ∷ []
bad_frame_numbers (bad.Body n) = 111 ∷ n ∷ []

-- no two faults have the same numbers, and no frame is of such a kind
abbrev pub fault_numbers : TalkFault → List ℕ
fault_numbers faults.Ended = 112 ∷ 0 ∷ []
fault_numbers faults.Hangs = 113 ∷ 0 ∷ []
fault_numbers (faults.Frame fault) = bad_frame_numbers fault
fault_numbers (faults.ChangesOf n) = 114 ∷ n ∷ []
fault_numbers (faults.Body len opcode) = 115 ∷ len ∷ opcode ∷ []
fault_numbers (faults.BadBody n) = 116 ∷ n ∷ []
fault_numbers faults.TooManyFrames = 117 ∷ 0 ∷ []

abbrev pub fault_event : TalkFault → Event
fault_event fault = (fault_numbers fault, [])

abbrev pub turn_event : Turn → Event
turn_event (Says f) = frame_event f
turn_event (Fails fault) = fault_event fault

-- ---- conversations

-- the REQUEST for a request that was asked so often before
abbrev pub request_frame : Asked → Moment → ℕ → Frame
request_frame asked now count = of_request (record { secs = cast_signed w64 now.secs; nanos = now.nanos; count = count; message = canon asked })

abbrev pub trip_events : Trip → List Event
trip_events t = frame_event t.query ∷ frame_event t.told ∷ []

-- REQUEST, the trips, and what came last
abbrev pub talk_events : ℕ → Conversation → List Event
talk_events count c = (frame_event (request_frame c.asked c.now count) ∷ flat_map trip_events c.trips) ++ turn_event c.last ∷ []

-- all that passed was frames, so the events are those of no other conversation: a GET got VALUES, and a SCAN got PAIRS
pub record IsWholeTrip (t : Trip) : Type 0 where
  pub query : IsFrame t.query
  pub asks : asks_more (Says t.query) ≡ true
  pub told : IsFrame t.told
  pub kind : frame_kind t.told ≡ frame_kind t.query + 1

-- the faults of a pipe, and of bytes that are no frame
abbrev pub IsReadFault : TalkFault → Type 0
IsReadFault faults.Ended = Unit {0}
IsReadFault faults.Hangs = Unit {0}
IsReadFault (faults.Frame fault) = Unit {0}
IsReadFault _ = ⊥

abbrev pub IsWholeTurn : Turn → Type 0
IsWholeTurn (Says f) = IsFrame f
IsWholeTurn (Fails fault) = IsReadFault fault

pub record IsWhole (c : Conversation) : Type 0 where
  pub sayable_one : sayable c.asked ≡ true
  pub trips : AllByRecursion IsWholeTrip c.trips
  pub last : IsWholeTurn c.last

-- ---- the record

-- a conversation stands in these events
pub record IsNoted (events : List Event) (c : Conversation) : Type 0 where
  pub before : List Event
  pub later : List Event
  pub count : ℕ
  pub here : events ≡ before ++ (talk_events count c ++ later)
  pub whole : IsWhole c

-- the premise on a guest: it says what was said, in each conversation
abbrev pub AgreesWithAll : Guest → List Event → Type 0
AgreesWithAll G events = (c : Conversation) → IsNoted events c → AgreesOn G c
