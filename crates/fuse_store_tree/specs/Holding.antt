-- The content of the tables where their rows are those of a tree (defined by this project).
use Rattle.std.specs.Prelude.{◌≡◌, ◌<◌, ◌≤◌, ◌^◌, ℕ, List, map, Option, option_map}
use Rattle.std.specs.List.{AllByRecursion}
use Rattle.sqlite.specs.Effect.{Database}
use Rattle.sqlite.specs.State.{State, HasCleanDisk}
use Rattle.fuse_tree.specs.State.{State as TreeState, Tree}
use Rattle.fuse_rows.specs.Rows.{Rows}
use Rattle.fuse_tree.specs.Rowed.{rowed}
use Rattle.fuse_keeper.specs.Lots.{Lots}
use Rattle.fuse_store_tables.specs.Content.{Kept, kept_key, node_key, cookie_of, fh_of, at_by}
use Rattle.fuse_store_tables.specs.Moves.{RestsAs}
use Rattle.fuse_store_tree.specs.Store.{Store, Held, in_order}

-- a tree, the records in rising order of their ids, the lots in rising order, and the number of the next lot
pub record Holding : Type 0 where
  pub tree : TreeState
  pub kept : List Kept
  pub lots : List ℕ
  pub next_lot : ℕ

abbrev pub store_of : Holding → Store
store_of y = record { rows = rowed y.tree; kept = y.kept; lots = y.lots; next_lot = y.next_lot }

-- the lots are below the next lot number
abbrev pub AreBelow : ℕ → List ℕ → Type 0
AreBelow next lots = AllByRecursion (λ n. n < next) lots

-- the rows are in the order of their numbers
pub record AreInOrder (rows : Rows) : Type 0 where
  pub nodes : in_order node_key (map (λ f. f.row) rows.nodes) ≡ map (λ f. f.row) rows.nodes
  pub entries : in_order cookie_of rows.entries ≡ rows.entries
  pub handles : in_order fh_of rows.handles ≡ rows.handles

abbrev pub TreesAreInOrder : Type 0
TreesAreInOrder = (s : TreeState) → Tree s → AreInOrder (rowed s)

-- a database of the tables that holds this over this data file
pub record HeldFor (file : List ℕ) (y : Holding) (d : Database) : Type 0 where
  pub tree : Tree y.tree
  pub below : AreBelow y.next_lot y.lots
  pub next : y.next_lot ≤ 2 ^ 62
  pub held : Held file (store_of y) d

-- of the holding before a whole transaction, if the disk returned what was written
abbrev pub ReportsAfter : List ℕ → State → State → (Holding → Type 0) → Type 0
ReportsAfter file old new P = HasCleanDisk new → (y : Holding) → RestsAs (HeldFor file y) old → P y

-- these lots and the one of this opening, and the lot of each of these records
abbrev pub lots_as : Option ℕ → List ℕ → List Kept → Lots
lots_as current lots kept = record { numbers = lots; current = current; under = λ i. option_map (λ k. k.lot) (at_by kept_key i kept) }

-- the lots of a holding, and the one of this opening
abbrev pub lots_of : Option ℕ → Holding → Lots
lots_of current y = lots_as current y.lots y.kept
