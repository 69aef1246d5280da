-- A store in its database and its data file, and what a call makes of both (defined by this project).
use Rattle.std.specs.Prelude.{◌≡◌, ◌⊎◌, ℕ, IsTrue, List, Option, Result, OnOk, OnErr, IfErr}
use Rattle.sqlite.specs.Tree.{Trees}
use Rattle.sqlite.specs.State.{State, HasCleanDisk}
use Rattle.sqlite.specs.Held.{Held as Conn, state}
use Rattle.sqlite_trees.specs.declared.store.Store.{Ghosts}
use Rattle.sqlite_disk.specs.Disk.{Only}
use Rattle.sqlite_disk.specs.declared.Disk.{Ghosts as DiskGhosts}
use Rattle.fuse_keeper.specs.declared.fault.StoreFault.{StoreFault}
use Rattle.fuse_data.specs.State.{DataState, state_in}
use Rattle.fuse_data.specs.declared.data_file.DataFile.{DataFile}
use Rattle.fuse_store_tables.specs.Content.{LeftAs}
use Rattle.fuse_store_tables.specs.Faults.{IsOutside}
use Rattle.fuse_store_tables.specs.Moves.{RestsAs}
use Rattle.fuse_store_tree.specs.declared.meta.Meta.{Meta}
use Rattle.fuse_store_tree.specs.Group.{HasLotLeft}
use Rattle.fuse_store_tree.specs.Holding.{Holding, HeldFor}
use Rattle.fuse_store_tree.specs.Knowing.{HeldForKnown}
use Rattle.fuse_store_tree.specs.Leaving.{ListsInUse}

pub record StoreState : Type 1 where
  pub tables : State
  pub contents : DataState

-- by a connection and a data file, which a plain store doesn't have
abbrev pub store_in : {S D : Type 0} → Ghosts S → DiskGhosts D → Conn S → Option (DataFile D) → StoreState
store_in g h conn file = record { tables = state g conn; contents = state_in h file }

-- both have so far returned what was written
abbrev pub IsHonest : StoreState → Type 0
IsHonest s = HasCleanDisk s.tables × IsTrue s.contents.is_clean

-- more may be asked of both
abbrev pub IsUsable : StoreState → Type 0
IsUsable s = IsTrue s.tables.is_open × IsTrue s.contents.is_usable

-- Outside a transaction the two hold this, and what is known of it is right. No block of a listed piece is free, and a crash leaves of the
-- data file what is read of it.
pub record IsAtRest (known : Option Meta) (y : Holding) (s : StoreState) : Type 0 where
  pub rests : RestsAs (HeldForKnown s.contents.seen known y) s.tables
  pub usable : IsTrue s.contents.is_usable
  pub in_use : ListsInUse s.contents.gaps s.tables.now
  pub synced : Only s.contents.seen s.contents.may_leave

-- a crash leaves these trees beside this content of the data file: they hold what was held before, or what was made of it
abbrev pub LeavesEither : (Holding → Holding) → Holding → Trees → List ℕ → Type 0
LeavesEither made y db file = LeftAs (HeldFor file y) db ⊎ LeftAs (HeldFor file (made y)) db

-- a call that makes this of what is held, and nothing where it fails
pub record ServesStore {X E : Type 0} (m n : Option Meta) (made : Holding → Holding) (old new : StoreState) (r : Result X E) : Type 0 where
  pub honest : IsHonest new → IsHonest old
  -- any trees that a crash leaves, beside any content of the data file that it leaves
  pub crash : IsHonest new → (y : Holding) → IsAtRest m y old → (db : Trees) → new.tables.may_leave db → (file : List ℕ) → new.contents.may_leave file
      → LeavesEither made y db file
  pub kept : OnErr r (IsHonest new → IsUsable new → (y : Holding) → IsAtRest m y old → IsAtRest m y new)
  pub done : OnOk r (IsHonest new → (y : Holding) → IsAtRest m y old → IsAtRest n (made y) new)

-- a call never opens either, and where it succeeds what could be used still can
pub record StaysUsable {X E : Type 0} (old new : StoreState) (r : Result X E) : Type 0 where
  pub was : IsHonest new → IsUsable new → IsUsable old
  pub still : OnOk r (IsHonest new → IsUsable old → IsUsable new)

-- of what was held before, where both returned what was written
abbrev pub ReportsStore : Option Meta → StoreState → StoreState → (Holding → Type 0) → Type 0
ReportsStore known old new P = IsHonest new → (y : Holding) → IsAtRest known y old → P y

-- where something was held, a fault says nothing of the store, unless no lot number is left
abbrev pub IsSafeStore : {X : Type 0} → Option Meta → Option ℕ → StoreState → StoreState → Result X StoreFault → Type 0
IsSafeStore known lot old new r = IsHonest new → IfErr r (λ f. (y : Holding) → IsAtRest known y old → HasLotLeft lot y → IsOutside f)

-- the same whether one is left or not
abbrev pub IsSoundStore : {X : Type 0} → Option Meta → StoreState → StoreState → Result X StoreFault → Type 0
IsSoundStore known old new r = IsHonest new → IfErr r (λ f. (y : Holding) → IsAtRest known y old → IsOutside f)
