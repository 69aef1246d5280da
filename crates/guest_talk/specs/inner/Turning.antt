-- One turn of a talk, and what comes of a request (defined by this project).
use Rattle.std.specs.Prelude.{◌≡◌, ◌⊎◌, true, false, List, ◌++◌, Option, Some, None, Ok, Err, IfSome}
use Rattle.fuse_request.specs.Act.{Act}
use Rattle.fuse_keeper.specs.declared.fault.StoreFault.{StoreFault}
use Rattle.guest_frames.specs.Frames.{Frame, AnswerContent}
use Rattle.fuse_guest.specs.declared.fault.TalkFault.{TalkFault}
use Rattle.fuse_guest.specs.Pairs.{Pairs}
use Rattle.fuse_guest.specs.Talk.{Says}
use Rattle.fuse_guest.specs.Conversations.{asks_more}
use Rattle.guest_talk.specs.declared.fault.AskFault.{AskFault}
use Rattle.guest_talk.specs.declared.fault.AskFault.TheVariants as faults
use Rattle.guest_talk.specs.Asking.{Ask, EndsBy, guest_fault, store_fault, is_askable}
use Rattle.guest_talk.specs.Events.{Event}
use Rattle.guest_talk.specs.TalkState.{TalkState}
use Rattle.guest_talk.specs.inner.Writes.{IsStoreFault}
use Rattle.guest_talk.specs.inner.Turns.{Notes, Hears, Tells, TellsFault, EndsWell, EndsWrong, LooksBy}

-- ---- one turn

-- what the request does, which pairs are shown, and which faults a look may answer
pub record Due : Type 1 where
  pub act : Act
  pub shown : Pairs → Type 0
  pub may_answer : StoreFault → Type 0

abbrev pub due_of : Act → (Pairs → Type 0) → (StoreFault → Type 0) → Due
due_of act shown may_answer = record { act = act; shown = shown; may_answer = may_answer }

-- a query came, and got its frame
pub record AsksOn (old new : TalkState) (shown : Pairs → Type 0) : Type 0 where
  pub heard : TalkState
  pub query : Frame
  pub hears : Hears old heard query
  pub asks : asks_more (Says query) ≡ true
  pub tells : Tells heard new shown query

-- or the answer
abbrev pub TakesTurn : TalkState → TalkState → Due → Option AnswerContent → Type 0
TakesTurn old new d None = AsksOn old new d.shown
TakesTurn old new d (Some a) = EndsWell old new d.act a

-- a query came, and didn't get its frame
pub record AsksInVain (old new : TalkState) (shown : Pairs → Type 0) (fault : TalkFault) : Type 0 where
  pub heard : TalkState
  pub query : Frame
  pub hears : Hears old heard query
  pub asks : asks_more (Says query) ≡ true
  pub fails : TellsFault heard new shown query fault

-- a turn ended the talk by a fault
pub record IsOver (old new : TalkState) (act : Act) (fault : TalkFault) : Type 0 where
  pub wrong : EndsWrong old new act fault
  pub over : asks_more wrong.last ≡ false

abbrev pub TakesNoTurn : TalkState → TalkState → Due → AskFault → Type 0
TakesNoTurn old new d (faults.Store fault) = IsStoreFault d.shown d.may_answer fault × ((more : List Event) × Notes old new more)
TakesNoTurn old new d (faults.Guest fault) = IsOver old new d.act fault ⊎ AsksInVain old new d.shown fault
TakesNoTurn old new d faults.Unsayable = ⊥

-- ---- all turns

-- what is asked, what is shown meanwhile, and what the looks did
pub record Asking : Type 1 where
  pub ask : Ask
  pub shown : Pairs → Type 0
  pub may_answer : StoreFault → Type 0
  pub looks : Type 0
  pub fails : Type 0

abbrev pub asking_by : Ask → (Pairs → Type 0) → (StoreFault → Type 0) → Type 0 → Type 0 → Asking
asking_by ask shown may_answer looks fails = record { ask = ask; shown = shown; may_answer = may_answer; looks = looks; fails = fails }

pub record Answered (old new : TalkState) (q : Asking) (a : AnswerContent) : Type 0 where
  pub ends : EndsBy old new q.ask q.shown (Ok a)
  pub looks : q.looks
  pub ready : new.ready ≡ old.ready

pub record Failed (old new : TalkState) (q : Asking) (fault : AskFault) : Type 0 where
  pub guest : IfSome (guest_fault fault) (λ e. EndsBy old new q.ask q.shown (Err e))
  pub store : IfSome (store_fault fault) (IsStoreFault q.shown q.may_answer)
  pub unsayable : fault ≡ faults.Unsayable → (is_askable q.ask.asked ≡ false) × (new.events ≡ old.events)
  pub looks : LooksBy q.looks q.fails fault
  pub grows : (more : List Event) × (new.events ≡ old.events ++ more)
  pub ready : new.ready ≡ old.ready
