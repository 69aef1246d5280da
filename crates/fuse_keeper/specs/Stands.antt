-- How rows and records stand for a history, and what a crash may leave of them (defined by this project).
use Rattle.std.specs.Prelude.{◌≡◌, ◌⊎◌, ℕ, false, nat_eq, if◌then◌else◌, List, length, map, Option, Some, None, is_some}
use Rattle.std.specs.List.{IsDistinct}
use Rattle.fuse_answer.specs.Said.{Said}
use Rattle.fuse_keeper.specs.Model.{Model}
use Rattle.fuse_keeper.specs.declared.keeper.Done.{Done}
use Rattle.fuse_keeper.specs.History.{Entry, History, after, said, Distinct, grown, kept_of, answers_over, is_in, Includes, ids_in, repeats}

-- the record of each id
abbrev pub Records : Type 0
Records = ℕ → Option Said

-- what a keeper holds
pub record KeeperContent (M : Model) : Type 0 where
  pub rows : M.Rows
  pub records : Records

-- a start, the kept requests that were performed since, and the settled ids
pub record Standing (M : Model) : Type 0 where
  pub state : M.State
  pub history : History
  pub settled : List ℕ

-- the records of ids that aren't settled
abbrev pub without : List ℕ → Records → Records
without settled records i = if is_in settled i then None else records i

-- the rows are those of the state after the history; each record is the answer to its id, and each
-- id of the history that isn't settled has one
pub record Stands (M : Model) (rows : M.Rows) (records : Records) (s : M.State) (h : History) (settled : List ℕ) : Type 0 where
  pub tree : M.IsGood (after M s h)
  pub distinct : Distinct h
  pub rows_are : rows ≡ M.held_for (after M s h)
  pub right : (i : ℕ) (a : Said) → records i ≡ Some a → said M s h i ≡ Some a
  pub kept : (i : ℕ) → is_in settled i ≡ false → records i ≡ said M s h i

abbrev pub StandsAt : (M : Model) → KeeperContent M → Standing M → Type 0
StandsAt M held at = Stands M held.rows held.records at.state at.history at.settled

-- what is held stands for the history
pub record StandsBy (M : Model) (holds : M.Rows → Records → Type 0) (s : M.State) (h : History) (settled : List ℕ) : Type 0 where
  pub rows : M.Rows
  pub records : Records
  pub held : holds rows records
  pub stands : Stands M rows records s h settled

-- a group was performed: the history grew by its kept entries, and each answer is the one at its place
pub record PerformedBy (M : Model) (holds : M.Rows → Records → Type 0) (at : Standing M) (group : List Entry) (dones : List Done) : Type 0 where
  pub stands : StandsBy M holds at.state (grown at.history (kept_of M.service group)) at.settled
  pub answers : map (λ d. Some d.answer) dones ≡ answers_over M at.state at.history group
  pub repeated : map (λ d. d.repeated) dones ≡ repeats M.service at.history group

-- these rows, and under each id this record
abbrev pub AreThese : (M : Model) → M.Rows → Records → M.Rows → Records → Type 0
AreThese M rows records x r = (x ≡ rows) × ((i : ℕ) → r i ≡ records i)

-- whatever a crash leaves is whole, and of this kind
abbrev pub LeavesBy : (M : Model) → Type 0 → (M.Rows → Records → Type 0) → (M.Rows → Records → Type 0) → Type 0
LeavesBy M whole may_leave P = whole × ((x : M.Rows) (r : Records) → may_leave x r → P x r)

-- a crash now could leave nothing but what is held
abbrev pub IsFirmBy : (M : Model) → (M.Rows → Records → Type 0) → Type 0 → (M.Rows → Records → Type 0) → Type 0
IsFirmBy M holds whole may_leave = (rows : M.Rows) (records : Records) → holds rows records → LeavesBy M whole may_leave (AreThese M rows records)

-- all that was held is still held
abbrev pub KeepsHeldBy : (M : Model) → (M.Rows → Records → Type 0) → (M.Rows → Records → Type 0) → Type 0
KeepsHeldBy M holds holds' = (rows : M.Rows) (records : Records) → holds rows records → holds' rows records

-- what stands for a history still does where the rows and records are the same, and where more ids are settled
pub record StillStands (M : Model) : Type 0 where
  pub same : (rows : M.Rows) (records : Records) (x : M.Rows) (r : Records) (s : M.State) (h : History) (t : List ℕ) → AreThese M rows records x r
      → Stands M rows records s h t → Stands M x r s h t
  pub settled : (rows : M.Rows) (records : Records) (s : M.State) (h : History) (t more : List ℕ) → Includes more t → Stands M rows records s h t
      → Stands M rows records s h more

-- these rows and records stand for the first history, or for the second one
abbrev pub StandsForEither : (M : Model) → Standing M → Standing M → M.Rows → Records → Type 0
StandsForEither M first second x r = StandsAt M (record { rows = x; records = r }) first ⊎ StandsAt M (record { rows = x; records = r }) second

-- after kept entries: the records of other ids are those of before, without the settled ones
abbrev pub OthersStay : Records → List ℕ → List Entry → Records → Type 0
OthersStay records settled group records' = (i : ℕ) → is_in (ids_in group) i ≡ false → records' i ≡ (if is_in settled i then None else records i)

-- so many ids have a record
pub record CountsRecords (records : Records) (n : ℕ) : Type 0 where
  pub ids : List ℕ
  pub number : length ids ≡ n
  pub once : IsDistinct nat_eq ids
  pub all : (i : ℕ) → is_in ids i ≡ is_some (records i)
