-- The effect of events on a keeper, and the answers to them (defined by this project).
use Rattle.std.specs.Prelude.{◌≡◌, ◌≤◌, ℕ, suc, Bool, true, false, if◌then◌else◌, List, [], ◌∷◌, ◌++◌, length, take, Option, Some, None, IsSomeAnd, IfSome}
use Rattle.std.specs.Prelude.{slice_get, All}
use Rattle.std.specs.List.{flat_map}
use Rattle.std.specs.Option.{option_map}
use Rattle.fuse_answer.specs.Said.{Said}
use Rattle.fuse_answer.specs.Wire.{wire}
use Rattle.fuse_request.specs.declared.class.Class.{Class}
use Rattle.fuse_request.specs.declared.class.Class.TheVariants.{Silent, Bare, Kept, Seen}
use Rattle.fuse_request.specs.Classes.{class_for, is_zero}
use Rattle.fuse_request.specs.Opcodes.{Service}
use Rattle.fuse_request.specs.Stream.{cut}
use Rattle.fuse_keeper.specs.declared.fault.StoreFault.{StoreFault}
use Rattle.fuse_keeper.specs.History.{Entry, History, answer_to, after, grown, said}
use Rattle.fuse_keeper.specs.Model.{Model, serving}
use Rattle.fuse_keeper.specs.Lots.{no_lots}
use Rattle.fuse_keeper.specs.KeeperState.{KeeperState, of_service, StandsFor, KeepsHeld}
use Rattle.fuse_keeper.specs.Bounds.{max_group_len}
use Rattle.fuse_keeper.specs.Performance.{Performance}
use Rattle.fuse_session.specs.Processed.{unique_of, message_id, message_entry, entry_if, performed_if}
use Rattle.fuse_session.specs.Settling.{settles_if, MayCome}
use Rattle.fuse_sim.specs.declared.event.Fate.{Fate}
use Rattle.fuse_sim.specs.declared.event.Fate.TheVariants.{Answered, AnswerLost, DiedBeforeCommit, DiedAfterCommit}
use Rattle.fuse_sim.specs.declared.event.Event.{Event}
use Rattle.fuse_sim.specs.declared.event.Outcome.{Outcome}
use Rattle.fuse_sim.specs.declared.event.DriveFault.{DriveFault}
use Rattle.fuse_sim.specs.declared.event.DriveFault.TheVariants.{NotAMessage, ZeroUnique, Store, Memory}

-- `V` says which further opcodes the file system serves, and which requests it sees

-- ---- what is committed

-- the kept message of an event, unless the server dies before it commits
abbrev pub commits_by : Fate → List Entry → List Entry
commits_by Answered es = es
commits_by AnswerLost es = es
commits_by DiedBeforeCommit es = []
commits_by DiedAfterCommit es = es

abbrev pub commits : Service → Event → List Entry
commits V e = commits_by e.fate (entry_if (class_for V e.bytes) (message_entry e.bytes e.moment))

abbrev pub commits_in : Service → List Event → List Entry
commits_in V events = flat_map (commits V) events

-- the kept or seen message of an event is performed, unless the server dies before that
abbrev pub performs : Service → Event → List Entry
performs V e = commits_by e.fate (performed_if (class_for V e.bytes) (message_entry e.bytes e.moment))

abbrev pub performs_in : Service → List Event → List Entry
performs_in V events = flat_map (performs V) events

-- the history with each kept one added, unless its id is there
abbrev pub committed : Service → History → List Event → History
committed V h events = grown h (commits_in V events)

-- the server dies at the event, and starts again
abbrev pub dies : Fate → Bool
dies Answered = false
dies AnswerLost = false
dies DiedBeforeCommit = true
dies DiedAfterCommit = true

-- it dies before it commits
abbrev pub dies_before : Fate → Bool
dies_before Answered = false
dies_before AnswerLost = false
dies_before DiedBeforeCommit = true
dies_before DiedAfterCommit = false

abbrev pub Calm : Event → Type 0
Calm e = dies e.fate ≡ false

-- at how many events the server dies
abbrev pub deaths : List Event → ℕ
deaths [] = 0
deaths (e ∷ es) = if dies e.fate then suc (deaths es) else deaths es

-- ---- what is answered

-- the answer of this class and unique: none, the header with an error, what was said of the id, or what the state answers
abbrev pub answer_in : Class → Option Said → Said → ℕ → Option (List ℕ)
answer_in Silent o a unique = None
answer_in (Bare errno) o a unique = Some (wire errno.0 [] unique)
answer_in Kept o a unique = option_map (λ known. wire known.errno known.body unique) o
answer_in Seen o a unique = Some (wire a.errno a.body unique)

-- whether the kernel takes the answer
abbrev pub is_taken : Fate → Bool
is_taken Answered = true
is_taken AnswerLost = false
is_taken DiedBeforeCommit = false
is_taken DiedAfterCommit = false

abbrev pub where_taken : Bool → Option (List ℕ) → Option (List ℕ)
where_taken true answer = answer
where_taken false answer = None

-- of an event that comes after the history h, where g is the history in the end
abbrev pub outcome_of : (M : Model) → M.State → History → History → Event → Option (List ℕ)
outcome_of M s g h e = where_taken (is_taken e.fate) (answer_in (class_for M.service e.bytes) (said M s g (message_id e.bytes))
    (answer_to M (after M s h) (message_entry e.bytes e.moment)) (unique_of e.bytes))

abbrev pub outcomes_after : (M : Model) → M.State → History → History → List Event → List (Option (List ℕ))
outcomes_after M s g h [] = []
outcomes_after M s g h (e ∷ es) = outcome_of M s g h e ∷ outcomes_after M s g (grown h (commits M.service e)) es

-- where just these are committed
abbrev pub outcomes_of : (M : Model) → M.State → History → List Event → List (Option (List ℕ))
outcomes_of M s h events = outcomes_after M s (committed M.service h events) h events

-- the outcomes begin with those of these events
abbrev pub OutcomesBegin : (M : Model) → M.State → History → List Event → List (Option (List ℕ)) → Type 0
OutcomesBegin M s h events outcomes =
    (others : List (Option (List ℕ))) × (outcomes ≡ outcomes_of M s h events ++ others)

-- the bytes of an outcome: the head, then the body
abbrev pub bytes_given : Option Outcome → Option (List ℕ)
bytes_given o = option_map (λ x. x.head ++ x.body) o

-- ---- what is settled

-- the id of a kept message whose answer is taken
abbrev pub settles : Service → Event → List ℕ
settles V e = settles_if (is_taken e.fate) (class_for V e.bytes) (message_id e.bytes)

abbrev pub settles_in : Service → List Event → List ℕ
settles_in V events = flat_map (settles V) events

-- the ids that were settled before, and those that events settle
abbrev pub settled_by : Service → List ℕ → List Event → List ℕ
settled_by V t [] = t
settled_by V t (e ∷ es) = settled_by V (t ++ settles V e) es

-- no kept message has an id that was settled before, or by an earlier event
abbrev pub NoneReused : Service → List ℕ → List Event → Type 0
NoneReused V t [] = Unit {0}
NoneReused V t (e ∷ es) = MayCome V t e.bytes × NoneReused V (t ++ settles V e) es

-- ---- the keeper that is driven

-- the state of the keeper, if there is one: nothing holds of none
abbrev pub told_in : {M : Model} {K : Type 0} → (K → KeeperState M) → Option K → KeeperState M
told_in {M} told None = record {
  holds = λ rows records. ⊥;
  is_honest = ⊥;
  is_clean = ⊥;
  in_memory = ⊥;
  has_failed = false;
  leaves_whole = ⊥;
  may_leave = λ rows records. ⊥;
  may_answer = λ fault. ⊥;
  lots = no_lots;
  service = M.service;
}
told_in {M} told (Some k) = told k

-- the keepers of a type, as those of the model with this service
abbrev pub told_for : {M : Model} {K : Type 0} → (V : Service) → (K → KeeperState M) → K → KeeperState (serving V M)
told_for V told k = of_service V (told k)

abbrev pub StandsIn : {M : Model} {K : Type 0} → (K → KeeperState M) → Option K → M.State → History → List ℕ → Type 0
StandsIn told keeper = StandsFor (told_in told keeper)

-- there is one, and it lies in memory alone where the first one did
abbrev pub KeepsMedium : {M : Model} {K : Type 0} → (K → KeeperState M) → Option K → Option K → Type 0
KeepsMedium told old new = (told_in told old).in_memory → IfSome new (λ k. (told k).in_memory)

-- ---- how often it was opened again

-- an event of a list, with those before it and those after it
pub record EventIn (events : List Event) : Type 0 where
  pub earlier : List Event
  pub one : Event
  pub later : List Event
  pub parts : events ≡ earlier ++ one ∷ later

-- those up to it
abbrev pub up_to : {events : List Event} → EventIn events → List Event
up_to at = at.earlier ++ at.one ∷ []

-- there are both, and the second is what became of the first, which was opened again so often on the way
abbrev pub became_in : {K : Type 0} → (K → K → ℕ → Type 0) → Option K → Option K → ℕ → Type 0
became_in became None new n = ⊥
became_in became (Some a) None n = ⊥
became_in became (Some a) (Some b) n = became a b n

-- the server died at one of the events: the keeper that was left then stood for all events up to this one, and it was opened
-- again, once, before anything else was done
pub record OpenedAt {M : Model} {K : Type 0} (told : K → KeeperState M) (became : K → K → ℕ → Type 0) (old new : Option K)
    {events : List Event} (at : EventIn events) : Type 0 where
  pub left : Option K
  pub opened : Option K
  pub before : became_in became old left (deaths at.earlier)
  pub once : became_in became left opened 1
  pub after : became_in became opened new (deaths at.later)
  pub kept : (told_in told new).is_honest → KeepsHeld (told_in told left) (told_in told opened)
  pub stood : (told_in told new).is_honest → (s : M.State) (h : History) (t : List ℕ) → StandsIn told old s h t → NoneReused M.service t (up_to at)
      → StandsIn told left s (committed M.service h (up_to at)) (settled_by M.service t (up_to at))

-- the keeper was opened again once for each event at which the server died, after what that event committed
pub record Opened {M : Model} {K : Type 0} (told : K → KeeperState M) (became : K → K → ℕ → Type 0) (old new : Option K) (events : List Event) : Type 0 where
  pub often : became_in became old new (deaths events)
  pub each : (at : EventIn events) → dies at.one.fate ≡ true → OpenedAt told became old new at

-- ---- what stood on the way

-- a keeper on the way stood for the first of some events; the others, at most 16 kept ones, were performed with the group that
-- came next
pub record StoodAt {M : Model} {K : Type 0} (told : K → KeeperState M) (became : K → K → ℕ → Type 0) (old new : Option K) (earlier later : List Event)
    : Type 0 where
  pub begun : List Event
  pub rest : List Event
  pub parts : earlier ≡ begun ++ rest
  pub few : length (commits_in M.service rest) ≤ max_group_len
  pub keeper : Option K
  pub before : became_in became old keeper (deaths begun)
  pub after : became_in became keeper new (deaths (rest ++ later))
  pub stood : (s : M.State) (h : History) (t : List ℕ) → StandsIn told old s h t → NoneReused M.service t begun
      → StandsIn told keeper s (committed M.service h begun) (settled_by M.service t begun)

-- so it was of the first events of these, however many, where the store gave back the bytes that were written
abbrev pub StoodBefore : {M : Model} {K : Type 0} → (K → KeeperState M) → (K → K → ℕ → Type 0) → Option K → Option K → List Event → Type 0
StoodBefore told became old new events = (told_in told new).is_honest → (earlier later : List Event) → events ≡ earlier ++ later
    → StoodAt told became old new earlier later

-- ---- what it was asked to perform

-- there are both, and the second is a later state of the first, which was asked to perform just these on the way
abbrev pub performed_in : {K : Type 0} → (K → K → List Performance → Type 0) → Option K → Option K → List Performance → Type 0
performed_in performed None new list = ⊥
performed_in performed (Some a) None list = ⊥
performed_in performed (Some a) (Some b) list = performed a b list

-- ---- faults

-- an event that can be run: its bytes are just one message, which can be answered
pub record IsFit (e : Event) : Type 0 where
  pub message : cut e.bytes ≡ (e.bytes ∷ [], [])
  pub named : is_zero e.bytes ≡ false

-- the event that a fault names, and those before it
abbrev pub event_of : DriveFault → ℕ
event_of (NotAMessage n) = n
event_of (ZeroUnique n) = n
event_of (Store n fault) = n
event_of (Memory n) = n

abbrev pub before : DriveFault → List Event → List Event
before fault events = take (event_of fault) events

-- the reason of a fault at the event that it names
abbrev pub CausedBy : DriveFault → Event → Type 0
CausedBy (NotAMessage n) e = ¬ (cut e.bytes ≡ (e.bytes ∷ [], []))
CausedBy (ZeroUnique n) e = (cut e.bytes ≡ (e.bytes ∷ [], [])) × (is_zero e.bytes ≡ true)
CausedBy (Store n fault) e = IsFit e
CausedBy (Memory n) e = IsFit e

-- it is the first that can't be run, where it can't
pub record Names (fault : DriveFault) (events : List Event) : Type 0 where
  pub named : IsSomeAnd (slice_get events (event_of fault)) (CausedBy fault)
  pub earlier : All IsFit (before fault events)

-- whether the store answered a fault
abbrev pub is_store : DriveFault → Bool
is_store (NotAMessage n) = false
is_store (ZeroUnique n) = false
is_store (Store n fault) = true
is_store (Memory n) = false

-- the store answered it, and it is one of these
abbrev pub IsStoreFault : (StoreFault → Type 0) → DriveFault → Type 0
IsStoreFault may (NotAMessage n) = ⊥
IsStoreFault may (ZeroUnique n) = ⊥
IsStoreFault may (Store n fault) = may fault
IsStoreFault may (Memory n) = ⊥

-- it is one that the keeper may answer which was in place after these events
pub record AnsweredBy {M : Model} {K : Type 0} (told : K → KeeperState M) (became : K → K → ℕ → Type 0)
    (old new : Option K) (events : List Event) (fault : DriveFault) : Type 0 where
  pub keeper : Option K
  pub before : became_in became old keeper (deaths events)
  pub after : became_in became keeper new 0
  pub may : IsStoreFault (told_in told keeper).may_answer fault

-- a keeper refuses with this fault to be opened again, and something is left of it
abbrev pub MayRefuse : {K R : Type 0} → (K → StoreFault → R → Type 0) → K → StoreFault → Type 0
MayRefuse {R = R} refuses k fault = (rest : R) × refuses k fault rest

-- the server died at the event of the list that is named, and the keeper that was in place after these refused with this fault
-- to be opened again
pub record OfRestart {K : Type 0} (became : K → K → ℕ → Type 0) (may_refuse : K → StoreFault → Type 0)
    (old : Option K) (done list : List Event) (fault : DriveFault) : Type 0 where
  pub died : IsSomeAnd (slice_get list (event_of fault)) (λ e. dies e.fate ≡ true)
  pub keeper : Option K
  pub often : became_in became old keeper (deaths done)
  pub refused : IsSomeAnd keeper (λ k. IsStoreFault (may_refuse k) fault)

-- a keeper that is left stands for the events before the fault: where the store answered it, if the store is clean,
-- and else if it gave back the bytes that were written
abbrev pub LeftBy : {M : Model} → KeeperState M → Bool → Type 0 → Type 0
LeftBy k true P = k.is_clean → P
LeftBy k false P = k.is_honest → P
