-- What is known of the tables from an earlier read (defined by this project).
use Rattle.std.specs.Prelude.{◌≡◌, ℕ, List, Option, IfSome, Result, IfErr}
use Rattle.sqlite.specs.Effect.{Database}
use Rattle.sqlite.specs.State.{State, HasCleanDisk}
use Rattle.fuse_rows.specs.Rows.{Rows, row_at}
use Rattle.fuse_tree.specs.Rowed.{IsRowed, rowed}
use Rattle.fuse_keeper.specs.declared.fault.StoreFault.{StoreFault}
use Rattle.fuse_store_tables.specs.Faults.{IsOutside}
use Rattle.fuse_store_tables.specs.Moves.{RestsAs}
use Rattle.fuse_store_tree.specs.declared.look.LastNode.{LastNode}
use Rattle.fuse_store_tree.specs.declared.meta.Meta.{Meta}
use Rattle.fuse_store_tree.specs.Pieces.{File}
use Rattle.fuse_store_tree.specs.Holding.{Holding, HeldFor}
use Rattle.fuse_store_tree.specs.Group.{HasLotLeft}

-- the counters and the settings of these rows
abbrev pub meta_of : Rows → Meta
meta_of rows = record { counters = rows.counters; settings = rows.settings }

-- what is known is that of these rows
abbrev pub Knows : Option Meta → Rows → Type 0
Knows known rows = IfSome known (λ m. m ≡ meta_of rows)

-- what the last look for a node found is in these rows
abbrev pub Recalls : Option LastNode → Rows → Type 0
Recalls last rows = IsRowed rows → IfSome last (λ l. l.row ≡ row_at rows l.number)

-- the tables, what is known of them, and the data file
pub record KnownTables : Type 1 where
  pub tables : State
  pub known : Option Meta
  pub file : File

abbrev pub knowing : Option Meta → State → File → KnownTables
knowing m s f = record { tables = s; known = m; file = f }

-- a database of the tables that holds this, where what is known is right
abbrev pub HeldForKnown : List ℕ → Option Meta → Holding → Database → Type 0
HeldForKnown file known y d = HeldFor file y d × Knows known (rowed y.tree)

-- of the holding before a whole transaction, where what is known of it is right, if the disk returned what was written
abbrev pub ReportsKnown : List ℕ → Option Meta → State → State → (Holding → Type 0) → Type 0
ReportsKnown file known old new P = HasCleanDisk new → (y : Holding) → RestsAs (HeldForKnown file known y) old → P y

-- where it was right, a fault of a whole transaction says nothing of the store, unless no lot number is left
abbrev pub IsSafeKnown : {X : Type 0} → List ℕ → Option Meta → Option ℕ → State → State → Result X StoreFault → Type 0
IsSafeKnown file known lot old new r = HasCleanDisk new → IfErr r (λ f. (y : Holding) → RestsAs (HeldForKnown file known y) old → HasLotLeft lot y → IsOutside f)
