-- Events as they are run, group after group (defined by this project).
use Rattle.std.specs.Prelude.{◌≡◌, ◌≤◌, ◌<◌, ◌⊎◌, ℕ, Bool, true, false, if◌then◌else◌, List, [], ◌∷◌, ◌++◌, length, map, take, All, Option, Some, None}
use Rattle.std.specs.Prelude.{slice_get, IfSome, IsSomeAnd}
use Rattle.fuse_answer.specs.Said.{Said}
use Rattle.fuse_answer.specs.Wire.{wire}
use Rattle.fuse_request.specs.declared.class.Class.{Class}
use Rattle.fuse_request.specs.declared.class.Class.TheVariants.{Silent, Bare, Kept, Seen as SeenOne}
use Rattle.fuse_request.specs.Classes.{class_for}
use Rattle.fuse_request.specs.Opcodes.{Service}
use Rattle.fuse_keeper.specs.History.{History, is_in, ids_in, Includes, IsUnsettled}
use Rattle.fuse_keeper.specs.declared.fault.StoreFault.{StoreFault}
use Rattle.fuse_keeper.specs.declared.keeper.Done.{Done}
use Rattle.fuse_keeper.specs.Model.{Model}
use Rattle.fuse_keeper.specs.Stands.{Records}
use Rattle.fuse_keeper.specs.KeeperState.{KeeperState, StandsFor, IsFirm, KeepsHeld, KeepsOthers, Reports}
use Rattle.fuse_keeper.specs.Bounds.{max_group_len}
use Rattle.fuse_keeper.specs.Group.{entries_of, HasId, IsPerformed, handed_to, left_pending}
use Rattle.fuse_keeper.specs.Performance.{Performance, performances_of}
use Rattle.fuse_session.specs.Grouping.{is_performed_class}
use Rattle.fuse_session.specs.Processed.{unique_of}
use Rattle.fuse_session.specs.inner.Group.{left_by}
use Rattle.fuse_sim.specs.declared.event.Fate.TheVariants.{DiedAfterCommit}
use Rattle.fuse_sim.specs.declared.event.Event.{Event}
use Rattle.fuse_sim.specs.declared.event.Outcome.{Outcome}
use Rattle.fuse_sim.specs.declared.event.DriveFault.{DriveFault}
use Rattle.fuse_sim.specs.declared.group.Group.{Group}
use Rattle.fuse_sim.specs.Driving.{commits_in, committed, performs, performs_in, settles_in, OutcomesBegin, bytes_given, is_taken, where_taken, dies, dies_before}
use Rattle.fuse_sim.specs.Driving.{deaths, Calm, NoneReused, IsFit, settled_by}
use Rattle.fuse_sim.specs.Driving.{told_in, StandsIn, KeepsMedium, became_in, performed_in, event_of, before, CausedBy, IsStoreFault, is_store, LeftBy}
use Rattle.fuse_sim.specs.inner.HandedBy.{pending_by, handed_on, IsOneGroup, EndsGroup}
use Rattle.fuse_sim.specs.LeftRecords.{HoldsRecords}
use Rattle.fuse_sim.specs.Twice.{Seen}

-- the events of a group: no server dies but after the last of them, where one does
abbrev pub IsGroupRun : Bool → List Event → Type 0
IsGroupRun died [] = died ≡ false
IsGroupRun died (e ∷ es) = (Calm e × IsGroupRun died es) ⊎ ((died ≡ true) × (e.fate ≡ DiedAfterCommit) × (es ≡ []))

-- no group begins here
abbrev pub StartsNone : List Event → Type 0
StartsNone [] = Unit {0}
StartsNone (e ∷ es) = (dies_before e.fate ≡ true) ⊎ ¬ IsFit e

-- a group begins here
abbrev pub BeginsGroup : List Event → Type 0
BeginsGroup [] = ⊥
BeginsGroup (e ∷ es) = IsFit e × (dies_before e.fate ≡ false)

-- no event of a group is lost
abbrev pub NoneDiesBefore : List Event → Type 0
NoneDiesBefore run = All (λ e. dies_before e.fate ≡ false) run

-- the class of each message
abbrev pub classes_of_events : Service → List Event → List Class
classes_of_events V run = map (λ e. class_for V e.bytes) run

-- a group is full
abbrev pub IsFull : Group → Type 0
IsFull group = length group.taken.items ≡ max_group_len

-- it has no place for the message of the next event
abbrev pub HasNoPlace : Service → Group → List Event → Type 0
HasNoPlace V group [] = ⊥
HasNoPlace V group (e ∷ es) = IsFull group × (0 < length (performs V e))

-- it ends before an event
abbrev pub EndsWith : Service → Group → Event → Type 0
EndsWith V group e = (group.died ≡ true) ⊎ (HasNoPlace V group (e ∷ []) ⊎ ((dies_before e.fate ≡ true) ⊎ ¬ IsFit e))

-- it ends before these events
abbrev pub StopsAt : Service → Group → List Event → Type 0
StopsAt V group others = group.died ≡ false → HasNoPlace V group others ⊎ StartsNone others

-- it was read off events
pub record GathersEvents (M : Model) (run : List Event) (group : Group) : Type 0 where
  pub fit : All IsFit run
  pub goes : IsGroupRun group.died run
  pub classes_are : group.classes.items ≡ classes_of_events M.service run
  pub entries : entries_of group.taken.items ≡ performs_in M.service run
  pub few : length group.taken.items ≤ max_group_len
  pub named : All HasId (entries_of group.taken.items)
  pub kept : All (IsPerformed M.service) (entries_of group.taken.items)

-- one more event joined it
abbrev pub Joins : Model → Event → Group → Group → Type 0
Joins M e old new = (run : List Event) → GathersEvents M run old → GathersEvents M (run ++ e ∷ []) new

abbrev pub answers_in : List Done → List Said
answers_in dones = map (λ d. d.answer) dones

-- the answer to a message, where these answers to kept and seen ones are left
abbrev pub head_answer : Class → ℕ → List Said → Option (List ℕ)
head_answer Silent unique answers = None
head_answer (Bare errno) unique answers = Some (wire errno.0 [] unique)
head_answer Kept unique [] = None
head_answer Kept unique (a ∷ answers) = Some (wire a.errno a.body unique)
head_answer SeenOne unique [] = None
head_answer SeenOne unique (a ∷ answers) = Some (wire a.errno a.body unique)

-- the part of it that the kernel takes
abbrev pub head_outcome : Service → Event → List Said → Option (List ℕ)
head_outcome V e answers = where_taken (is_taken e.fate) (head_answer (class_for V e.bytes) (unique_of e.bytes) answers)

-- the outcomes of a group's events, by the answers to its kept and seen messages
abbrev pub outcomes_by : Service → List Event → List Said → List (Option (List ℕ))
outcomes_by V [] answers = []
outcomes_by V (e ∷ es) answers = head_outcome V e answers ∷ outcomes_by V es (left_by (class_for V e.bytes) answers)

-- there is an answer for each kept and each seen message
abbrev pub HasAnswers : Service → List Event → List Said → Type 0
HasAnswers V [] answers = Unit {0}
HasAnswers V (e ∷ es) answers =
    (is_performed_class (class_for V e.bytes) ≡ true → 0 < length answers) × HasAnswers V es (left_by (class_for V e.bytes) answers)

-- outcomes were added
pub record Adds (old new : List (Option Outcome)) (outcomes : List (Option (List ℕ))) : Type 0 where
  pub added : List (Option Outcome)
  pub items : new ≡ old ++ added
  pub are : map bytes_given added ≡ outcomes

-- a keeper between two groups: the ids that are pending, and the outcomes so far
pub record Stage (M : Model) : Type 1 where
  pub keeper : KeeperState M
  pub pending : List ℕ
  pub outcomes : List (Option Outcome)

abbrev pub stage : {M : Model} → KeeperState M → List ℕ → List (Option Outcome) → Stage M
stage keeper pending outcomes = record { keeper = keeper; pending = pending; outcomes = outcomes }

-- a group was performed, and its outcomes were added, by any keeper
pub record Worked {M : Model} (old new : Stage M) (run : List Event) : Type 0 where
  pub added : List (Option Outcome)
  pub items : new.outcomes ≡ old.outcomes ++ added
  pub count : length added ≡ length run
  pub stands : new.keeper.is_honest → (s : M.State) (h : History) (t : List ℕ) → StandsFor old.keeper s h t
      → All (IsUnsettled (t ++ handed_to (commits_in M.service run) old.pending)) (commits_in M.service run)
      → StandsFor new.keeper s (committed M.service h run) (t ++ handed_to (commits_in M.service run) old.pending)
  pub outcomes : new.keeper.is_honest → (earlier later : List Event) → run ≡ earlier ++ later → (s : M.State) (h : History) (t : List ℕ)
      → StandsFor old.keeper s h t → All (IsUnsettled (t ++ handed_to (commits_in M.service run) old.pending)) (commits_in M.service earlier)
      → OutcomesBegin M s h earlier (map bytes_given added)
  pub records : KeepsOthers old.keeper new.keeper (handed_to (commits_in M.service run) old.pending) (performs_in M.service run)
  pub handed : new.pending ≡ left_pending (commits_in M.service run) old.pending ++ settles_in M.service run
  pub firm : new.keeper.is_honest → IsFirm old.keeper → IsFirm new.keeper

-- the records: those of ids that are handed on are deleted, and of the other ids those that don't come stay
pub record RecordsRan (V : Service) (p : List ℕ) (es : List Event) (records records' : Records) : Type 0 where
  pub others : (i : ℕ) → is_in (ids_in (commits_in V es)) i ≡ false → records' i ≡ (if is_in (handed_on V p es) i then None else records i)
  pub gone : (u : List ℕ) → Includes u p → NoneReused V u es → (i : ℕ) → is_in (handed_on V p es) i ≡ true → records' i ≡ None

-- events were run, where these ids were pending
pub record RanEvents {M : Model} (k k' : KeeperState M) (p : List ℕ) (es : List Event) (old new : List (Option Outcome)) : Type 0 where
  pub added : List (Option Outcome)
  pub items : new ≡ old ++ added
  pub count : length added ≡ length es
  pub stands : k'.is_honest → (s : M.State) (h : History) (t u : List ℕ) → StandsFor k s h t → Includes u t → Includes u p
      → NoneReused M.service u es → StandsFor k' s (committed M.service h es) (t ++ handed_on M.service p es)
  pub outcomes : k'.is_honest → (earlier later : List Event) → es ≡ earlier ++ later → (s : M.State) (h : History) (t u : List ℕ) → StandsFor k s h t
      → Includes u t → Includes u p → NoneReused M.service u earlier → OutcomesBegin M s h earlier (map bytes_given added)
  pub records : Reports k k' (λ rows records. HoldsRecords k' (RecordsRan M.service p es records))
  pub firm : k'.is_honest → IsFirm k → IsFirm k'

-- the first events were run
pub record Moved {M : Model} (old new : Stage M) (es others : List Event) : Type 0 where
  pub fit : All IsFit es
  pub ran : RanEvents old.keeper new.keeper old.pending es old.outcomes new.outcomes
  pub pending : new.pending ≡ pending_by M.service old.pending es
  pub ends : EndsGroup M.service es others

-- the server dies at none of these events but the last, where it does
abbrev pub DiesLast : Bool → List Event → Type 0
DiesLast died [] = died ≡ false
DiesLast died (e ∷ es) = (Calm e × DiesLast died es) ⊎ ((died ≡ true) × (dies e.fate ≡ true) × (es ≡ []))

-- events were run, and where the server died at the last of them, the keeper that stood for all of them was opened again, once
pub record Opens {M : Model} {K : Type 0} (told : K → KeeperState M) (became : K → K → ℕ → Type 0)
    (old new : Option K) (pending : List ℕ) (run : List Event) : Type 0 where
  pub died : Bool
  pub last : DiesLast died run
  pub left : Option K
  pub before : became_in became old left 0
  pub after : became_in became left new (if died then 1 else 0)
  pub honest : (told_in told new).is_honest → (told_in told left).is_honest
  pub was_honest : (told_in told left).is_honest → (told_in told old).is_honest
  pub kept : (told_in told new).is_honest → KeepsHeld (told_in told left) (told_in told new)
  pub stood : (told_in told left).is_honest → (s : M.State) (h : History) (t : List ℕ) → StandsIn told old s h t → Includes t pending
      → NoneReused M.service t run → StandsIn told left s (committed M.service h run) (settled_by M.service t run)
  pub few : length (commits_in M.service run) ≤ max_group_len
  pub medium : KeepsMedium told old new

-- the server died at the event that is named, and the keeper that these events had left refused to be opened again
pub record RefusesAfterDeath {K : Type 0} (became : K → K → ℕ → Type 0) (refuses : K → StoreFault → Type 0)
    (old : Option K) (events : List Event) (at : ℕ) (fault : DriveFault) : Type 0 where
  pub died : IsSomeAnd (slice_get events (event_of fault)) (λ e. dies e.fate ≡ true)
  pub keeper : Option K
  pub same : became_in became old keeper 0
  pub calm : deaths (before fault events) ≡ deaths (take at events)
  pub refused : IsSomeAnd keeper (λ k. IsStoreFault (refuses k) fault)

-- a fault came at the events that begin at a place: the event that it names, and the keeper that it leaves
pub record StopsAtEvent {M : Model} {K : Type 0} (seen : Seen M K) (old new : Option K) (events : List Event) (at : ℕ) (fault : DriveFault) : Type 0 where
  pub named : IsSomeAnd (slice_get events (event_of fault)) (CausedBy fault)
  pub earlier : All IsFit (take at events) → All IsFit (before fault events)
  pub left : LeftBy (told_in seen.told new) (is_store fault) ((event_of fault ≡ at) × KeepsHeld (told_in seen.told old) (told_in seen.told new))
  pub answered : is_store fault ≡ true → (told_in seen.told new).is_clean → (s : M.State) (h : History) (t : List ℕ) → StandsIn seen.told old s h t
      → IsStoreFault (told_in seen.told old).may_answer fault
  pub stayed : (new ≡ None → ⊥) → (event_of fault ≡ at) × became_in seen.became old new 0
  pub emptied : new ≡ None → RefusesAfterDeath seen.became seen.may_refuse old events at fault
  pub has_failed : IfSome new (λ k. (seen.told k).has_failed ≡ is_store fault)
  pub was_honest : (told_in seen.told new).is_honest → (told_in seen.told old).is_honest
  pub firm : is_store fault ≡ false → (told_in seen.told new).is_honest → IsFirm (told_in seen.told old) → IsFirm (told_in seen.told new)
  pub medium : (new ≡ None → ⊥) → KeepsMedium seen.told old new

-- events were asked for as one group
abbrev pub AsksGroup : {K : Type 0} → Service → (K → K → List Performance → Type 0) → Option K → Option K → List ℕ → List Event → Type 0
AsksGroup V performed old new pending run = performed_in performed old new (performances_of (performs_in V run) (handed_to (commits_in V run) pending))

-- a fault came at these events: a group with which they begin was asked for, where the store answered it
pub record StopsAsking {M : Model} {K : Type 0} (seen : Seen M K) (old new : Option K) (pending : List ℕ) (events : List Event) (fault : DriveFault)
    : Type 0 where
  pub run : List Event
  pub rest : List Event
  pub parts : events ≡ run ++ rest
  pub fit : All IsFit run
  pub one : IsOneGroup M.service run
  pub asked : (new ≡ None → ⊥) → AsksGroup M.service seen.performed old new pending run
  pub count : (new ≡ None → ⊥)
      → length (performances_of (performs_in M.service run) (handed_to (commits_in M.service run) pending)) ≡ (if is_store fault then 1 else 0)
