-- What stands stays standing.
use Rattle.std.proofs.Common.{ℕ, Bool, List, ◌∙◌}
use Rattle.fuse_keeper.specs.History.{History, Includes}
use Rattle.fuse_keeper.specs.Model.{Model}
use Rattle.fuse_keeper.specs.Stands.{Standing, StandsAt, Records, StillStands}
use Rattle.fuse_session.specs.Processed.{Timed}
use Rattle.fuse_session.specs.Settling.{Mark}
use Rattle.fuse_session.specs.Exchange.{Exchange}
use Rattle.fuse_keeper.specs.KeeperState.{KeeperState, StandsFor, IsSound, IsFirm, KeepsHeld, WhereHeld}

abbrev pub standing : (M : Model) → M.State → History → List ℕ → Standing M
standing M s h t = record { state = s; history = h; settled = t }

abbrev pub exchanged : Bool → List Timed → List Mark → Exchange
exchanged c timed marks = record { confirms = c; timed = timed; marks = marks }

-- these rows and records stand so
abbrev pub StandAt : (M : Model) → M.Rows → Records → Standing M → Type 0
StandAt M rows records at = StandsAt M (record { rows = rows; records = records }) at

-- more may be settled
pub stands_later : (M : Model) → StillStands M → (holds : KeeperState M) (s : M.State) (h : History) (t u : List ℕ) → Includes u t → StandsFor holds s h t
    → StandsFor holds s h u
stands_later M still holds s h t u more so =
    record { rows = so.rows; records = so.records; held = so.held; stands = still.settled so.rows so.records s h t u more so.stands }

-- what stands is still held
pub stands_kept : (M : Model) → (holds holds' : KeeperState M) (s : M.State) (h : History) (t : List ℕ) → KeepsHeld holds holds' → StandsFor holds s h t
    → StandsFor holds' s h t
stands_kept M holds holds' s h t keeps so = record { rows = so.rows; records = so.records; held = keeps so.rows so.records so.held; stands = so.stands }

-- a keeper that only looked is firm if it was
pub looked_firm : (M : Model) → (old new : KeeperState M) (rows : M.Rows) (records : Records) → IsSound new → KeepsHeld old new
    → WhereHeld old (old.leaves_whole → new.leaves_whole)
    → ((x : M.Rows) (r : Records) → WhereHeld old (new.may_leave x r → old.may_leave x r)) → old.holds rows records → IsFirm old → IsFirm new
looked_firm M old new rows records sound keeps whole crash held firm x r holds =
    let left = firm rows records held in
    let same = sound.one_holding rows x records r (keeps rows records held) holds in
    (whole rows records held left.0, λ y q may. let is = left.1 y q (crash y q rows records held may) in (is.0 ∙ same.0, λ i. is.1 i ∙ same.1 i))
