-- The turns of a talk, while a request is asked (defined by this project).
use Rattle.std.specs.Prelude.{◌≡◌, ℕ, true, false, List, [], ◌∷◌, ◌++◌, length, Ok, Err}
use Rattle.std.specs.List.{flat_map, AllByRecursion}
use Rattle.std.specs.Io.KnownBytes.{Consumes, Appends}
use Rattle.fuse_request.specs.Act.{Act}
use Rattle.fuse_request.specs.Canon.{sayable}
use Rattle.fuse_keeper.specs.declared.fault.StoreFault.{StoreFault}
use Rattle.fuse_keeper.specs.declared.fault.StoreFault.TheVariants as stores
use Rattle.guest_frames.specs.declared.ready.Ready.{Ready}
use Rattle.guest_frames.specs.Frames.{Frame, of_answer, AnswerContent, frame_bytes, IsFrame}
use Rattle.fuse_guest.specs.declared.fault.TalkFault.{TalkFault}
use Rattle.fuse_guest.specs.Pairs.{Pairs}
use Rattle.fuse_guest.specs.Talk.{Turn, Says, handed, checked_answer}
use Rattle.fuse_guest.specs.Conversations.{Trip, AreToldOf, asks_more, ending_by}
use Rattle.guest_talk.specs.declared.fault.AskFault.{AskFault}
use Rattle.guest_talk.specs.declared.fault.AskFault.TheVariants as faults
use Rattle.guest_talk.specs.declared.judging.Judged.{Judged}
use Rattle.guest_talk.specs.declared.judging.Judged.TheVariants as judged
use Rattle.guest_talk.specs.Asking.{Ask, is_askable}
use Rattle.guest_talk.specs.Bytes.{all_but_ready, ReadsFault, ReadsTurn}
use Rattle.guest_talk.specs.Events.{Event, frame_event, fault_event, request_frame, trip_events, turn_event, IsWholeTrip, IsWholeTurn}
use Rattle.guest_talk.specs.TalkState.{TalkState}
use Rattle.guest_talk.specs.inner.Pipes.{IsPipeFault}
use Rattle.guest_talk.specs.inner.Writes.{IsToldBy, IsStoreFault}

-- ---- steps

-- so much more passed
pub record Notes (old new : TalkState) (more : List Event) : Type 0 where
  pub ready : new.ready ≡ old.ready
  pub noted : new.events ≡ old.events ++ more

-- and these bytes were written and read
pub record Moves (old new : TalkState) (more : List Event) (wrote read : List ℕ) : Type 0 where
  pub notes : Notes old new more
  pub sent : Appends old.sent new.sent wrote
  pub came : Consumes old.coming new.coming read

-- the REQUEST for what is asked
abbrev pub asking_frame : Ask → Frame
asking_frame ask = request_frame (handed ask.asked) ask.now ask.count

-- ---- what functions return

-- a frame was written
pub record Sends (old new : TalkState) (f : Frame) : Type 0 where
  pub moves : Moves old new (frame_event f ∷ []) (frame_bytes f) []

-- or not as a whole
pub record SendsNot (old new : TalkState) (f : Frame) (fault : TalkFault) : Type 0 where
  pub pipe : IsPipeFault fault
  pub notes : Notes old new (frame_event f ∷ fault_event fault ∷ [])

-- a REQUEST was written
pub record Begins (old new : TalkState) (ask : Ask) : Type 0 where
  pub says : sayable (handed ask.asked) ≡ true
  pub sends : Sends old new (asking_frame ask)

-- or it wasn't, at least not as a whole
abbrev pub BeginsNot : TalkState → TalkState → Ask → AskFault → Type 0
BeginsNot old new ask (faults.Store fault) = (fault ≡ stores.Memory) × Notes old new []
BeginsNot old new ask (faults.Guest fault) =
    (sayable (handed ask.asked) ≡ true) × SendsNot old new (asking_frame ask) fault
BeginsNot old new ask faults.Unsayable = (is_askable ask.asked ≡ false) × Notes old new []

-- a frame was read
pub record Hears (old new : TalkState) (f : Frame) : Type 0 where
  pub whole : IsFrame f
  pub sent : new.sent ≡ old.sent
  pub moves : Moves old new (frame_event f ∷ []) [] (frame_bytes f)

-- or none
pub record HearsFault (old new : TalkState) (fault : TalkFault) : Type 0 where
  pub notes : Notes old new (fault_event fault ∷ [])
  pub sent : new.sent ≡ old.sent
  pub came : ReadsFault all_but_ready old.coming new.coming fault

abbrev pub HearsNot : TalkState → TalkState → AskFault → Type 0
HearsNot old new (faults.Store fault) = (fault ≡ stores.Memory) × Notes old new []
HearsNot old new (faults.Guest fault) = HearsFault old new fault
HearsNot old new faults.Unsayable = ⊥

-- a query got its frame
pub record Tells (old new : TalkState) (shown : Pairs → Type 0) (query : Frame) : Type 0 where
  pub told : Frame
  pub is : IsToldBy shown query told
  pub sends : Sends old new told

-- or not as a whole
pub record TellsFault (old new : TalkState) (shown : Pairs → Type 0) (query : Frame) (fault : TalkFault) : Type 0 where
  pub told : Frame
  pub is : IsToldBy shown query told
  pub sends : SendsNot old new told fault

-- what is said of a query and of the pairs that are shown
pub record Query : Type 1 where
  pub shown : Pairs → Type 0
  pub may_answer : StoreFault → Type 0
  pub frame : Frame

abbrev pub query_of : (Pairs → Type 0) → (StoreFault → Type 0) → Frame → Query
query_of shown may_answer f = record { shown = shown; may_answer = may_answer; frame = f }

abbrev pub TellsNot : TalkState → TalkState → Query → AskFault → Type 0
TellsNot old new q (faults.Store fault) = IsStoreFault q.shown q.may_answer fault × Notes old new []
TellsNot old new q (faults.Guest fault) = TellsFault old new q.shown q.frame fault
TellsNot old new q faults.Unsayable = ⊥

-- a fault of the store may be one of a look; before all others the looks went well
abbrev pub LooksBy : Type 0 → Type 0 → AskFault → Type 0
LooksBy looks fails (faults.Store fault) = fails
LooksBy looks fails _ = looks

-- what comes of a frame: it asks, or it is the answer, which is taken
abbrev pub IsJudged : Ready → Act → Frame → Judged → Type 0
IsJudged r act f judged.Asks = asks_more (Says f) ≡ true
IsJudged r act f judged.Answers = (a : AnswerContent) × (f ≡ of_answer a) × (checked_answer r act (Ok a) ≡ Ok a)

-- or a fault
pub record IsJudgedWrong (r : Ready) (act : Act) (f : Frame) (fault : TalkFault) : Type 0 where
  pub over : asks_more (Says f) ≡ false
  pub ends : checked_answer r act (ending_by (Says f)) ≡ Err fault

-- ---- the last turn

pub record Lasts (old new : TalkState) (last : Turn) : Type 0 where
  pub whole : IsWholeTurn last
  pub notes : Notes old new (turn_event last ∷ [])
  pub sent : new.sent ≡ old.sent
  pub came : ReadsTurn old.coming new.coming last

pub record EndsWell (old new : TalkState) (act : Act) (a : AnswerContent) : Type 0 where
  pub lasts : Lasts old new (Says (of_answer a))
  pub taken : checked_answer old.ready act (Ok a) ≡ Ok a

pub record EndsWrong (old new : TalkState) (act : Act) (fault : TalkFault) : Type 0 where
  pub last : Turn
  pub lasts : Lasts old new last
  pub ends : checked_answer old.ready act (ending_by last) ≡ Err fault

abbrev pub EndsIll : TalkState → TalkState → Act → AskFault → Type 0
EndsIll old new act (faults.Store fault) = (fault ≡ stores.Memory) × Notes old new []
EndsIll old new act (faults.Guest fault) = EndsWrong old new act fault
EndsIll old new act faults.Unsayable = ⊥

-- ---- while it goes on

abbrev pub events_so_far : Ask → List Trip → List Event
events_so_far ask trips = frame_event (asking_frame ask) ∷ flat_map trip_events trips

abbrev pub told_so_far : Ask → List Trip → List ℕ
told_so_far ask trips = frame_bytes (asking_frame ask) ++ flat_map (λ t. frame_bytes t.told) trips

abbrev pub asked_so_far : List Trip → List ℕ
asked_so_far trips = flat_map (λ t. frame_bytes t.query) trips

-- so many trips were made
pub record Going (old now : TalkState) (ask : Ask) (shown : Pairs → Type 0) (n : ℕ) : Type 0 where
  pub trips : List Trip
  pub many : length trips ≡ n
  pub says : sayable (handed ask.asked) ≡ true
  pub whole : AllByRecursion IsWholeTrip trips
  pub told : (ps : Pairs) → shown ps → AreToldOf ps trips
  pub moves : Moves old now (events_so_far ask trips) (told_so_far ask trips) (asked_so_far trips)
