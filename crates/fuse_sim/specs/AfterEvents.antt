-- What holds after events were run to their end: the keeper, the answers, and the records (defined by this project).
use Rattle.std.specs.Prelude.{◌≡◌, ℕ, false, List, ◌++◌, map, Option}
use Rattle.fuse_keeper.specs.History.{History, said, is_in}
use Rattle.fuse_keeper.specs.Model.{Model}
use Rattle.fuse_keeper.specs.Stands.{Records}
use Rattle.fuse_keeper.specs.KeeperState.{KeeperState, Reports}
use Rattle.fuse_keeper.specs.Performance.{Performance}
use Rattle.fuse_sim.specs.declared.event.Event.{Event}
use Rattle.fuse_sim.specs.declared.event.Outcome.{Outcome}
use Rattle.fuse_sim.specs.Driving.{told_in, StandsIn, committed, settled_by, NoneReused, outcomes_of, bytes_given, OutcomesBegin}
use Rattle.fuse_sim.specs.HandedOn.{handed_on_in}
use Rattle.fuse_sim.specs.LeftRecords.{RecordsLeft, HoldsRecords}

-- this is so where the store gave back the bytes that were written, whatever history the keeper stood for and whatever was settled
abbrev pub OfStood : {M : Model} {K : Type 0} → (K → KeeperState M) → Option K → Option K → (M.State → History → List ℕ → Type 0) → Type 0
OfStood {M} told old new P = (told_in told new).is_honest → (start : M.State) (h : History) (settled : List ℕ) → StandsIn told old start h settled
    → P start h settled

-- the keeper stands for the history with the requests that were committed
abbrev pub StandsAfter : {M : Model} {K : Type 0} → (K → KeeperState M) → Option K → Option K → List Event → Type 0
StandsAfter {M} told old new events = OfStood told old new (λ start h settled. NoneReused M.service settled events
    → StandsIn told new start (committed M.service h events) (settled_by M.service settled events))

-- the answer to a kept message is the one that this history says of its id, and that to a seen one is of the state before it
abbrev pub AnswersAre : {M : Model} {K : Type 0} → (K → KeeperState M) → Option K → Option K → List Event → List (Option Outcome) → Type 0
AnswersAre {M} told old new events outcomes = OfStood told old new (λ start h settled. NoneReused M.service settled events
    → map bytes_given outcomes ≡ outcomes_of M start h events)

-- so it is of the first events, however many
abbrev pub FirstAnswersAre : {M : Model} {K : Type 0} → (K → KeeperState M) → Option K → Option K → List Event → List (Option Outcome) → Type 0
FirstAnswersAre {M} told old new events outcomes = (told_in told new).is_honest → (earlier later : List Event) → events ≡ earlier ++ later
    → (start : M.State) (h : History) (settled : List ℕ) → StandsIn told old start h settled → NoneReused M.service settled earlier
    → OutcomesBegin M start h earlier (map bytes_given outcomes)

-- so it is of the records that are held, whatever history the keeper stood for, if any
abbrev pub DeletesHanded : {M : Model} {K : Type 0} → (K → KeeperState M) → Option K → Option K → List Performance → List Event → Type 0
DeletesHanded {M} told old new asked events =
    Reports (told_in told old) (told_in told new) (λ rows records. HoldsRecords (told_in told new) (RecordsLeft M.service asked events records))

-- each id that is neither settled before nor handed on has the record that the history says
abbrev pub KeepsUnhanded : {M : Model} {K : Type 0} → (K → KeeperState M) → Option K → Option K → List Performance → List Event → Type 0
KeepsUnhanded {M} told old new asked events = OfStood told old new (λ start h settled. NoneReused M.service settled events
    → (rows : M.Rows) (records : Records) → (told_in told new).holds rows records → (i : ℕ) → is_in settled i ≡ false → is_in (handed_on_in asked) i ≡ false
    → records i ≡ said M start (committed M.service h events) i)
