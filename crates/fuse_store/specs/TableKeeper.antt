-- The state of a keeper over tables, by its connection and its data file (defined by this project).
use Rattle.std.specs.Prelude.{◌↔◌, ◌≡◌, IsTrue, Option, Some, None, Result, [], true}
use Rattle.sqlite_trees.specs.declared.store.Store.{Ghosts}
use Rattle.sqlite_disk.specs.declared.Disk.{Ghosts as DiskGhosts}
use Rattle.sqlite.specs.State.{HasCleanDisk}
use Rattle.sqlite.specs.Held.{Held, state}
use Rattle.fuse_data.specs.declared.data_file.DataFile.{DataFile}
use Rattle.fuse_data.specs.State.{DataState, state_in}
use Rattle.fuse_init.specs.declared.profile.Profile.{Profile}
use Rattle.fuse_keeper.specs.Model.{Model}
use Rattle.fuse_keeper.specs.KeeperState.{KeeperState}
use Rattle.fuse_store.specs.declared.parts.StoreParts.{StoreParts}
use Rattle.fuse_store.specs.declared.table_keeper.TableKeeper.{TableKeeper}
use Rattle.fuse_keeper.specs.declared.fault.StoreFault.{StoreFault}
use Rattle.fuse_store_tables.specs.Moves.{IsSafe}
use Rattle.fuse_store_tree.specs.Holding.{Holding, HeldFor}
use Rattle.fuse_store_tree.specs.StoreState.{StoreState, IsHonest, ServesStore, IsSafeStore, store_in}
use Rattle.fuse_tree.specs.TheTree.{tree_of}
use Rattle.fuse_store.specs.Opening.{OpenRefused}
use Rattle.fuse_store.specs.TableState.{no_data, state_for, table_told}

-- ---- what a store lies in

-- a disk that was not opened as a data file yet: none of its blocks is known to be free
abbrev pub disk_in : {D : Type 0} → DiskGhosts D → Option D → DataState
disk_in h None = no_data
disk_in h (Some disk) = record {
  seen = h.seen disk;
  may_leave = h.may_leave disk;
  is_clean = h.is_clean disk;
  is_usable = h.is_usable disk;
  gaps = [];
}

abbrev pub parts_state : {S D : Type 0} → (g : Ghosts S) → (h : DiskGhosts D) → StoreParts S D → StoreState
parts_state g h parts = record { tables = state g parts.conn; contents = disk_in h parts.disk }

-- as a store of this profile sees them
abbrev pub parts_for : {S D : Type 0} → Profile → (g : Ghosts S) → (h : DiskGhosts D) → StoreParts S D → StoreState
parts_for p g h parts = state_for p (parts_state g h parts)

-- ---- a keeper

-- whatever was called, the connection is open, and its disk has returned what was written, as has that of the data file
pub record LiesInMemory {S D : Type 0} (g : Ghosts S) (h : DiskGhosts D) : Type 0 where
  pub tables : (conn : Held S) → HasCleanDisk (state g conn) × IsTrue (state g conn).is_open
  pub contents : (file : Option (DataFile D)) → IsTrue (state_in h file).is_clean × IsTrue (state_in h file).is_usable

-- the connection of a keeper
abbrev pub conn_of : {P S D : Type 0} → (g : Ghosts S) → (h : DiskGhosts D) → TableKeeper P S D → Held S
conn_of g h k = k.look.conn

-- its database and its data file
abbrev pub store_at : {P S D : Type 0} → (g : Ghosts S) → (h : DiskGhosts D) → TableKeeper P S D → StoreState
store_at g h k = store_in g h k.look.conn k.look.contents.file

abbrev pub keeper_told : {P S D : Type 0} → (p : Profile) → (g : Ghosts S) → (h : DiskGhosts D) → TableKeeper P S D → KeeperState (tree_of p)
keeper_told p g h k = table_told p (LiesInMemory g h) k.look.known (store_at g h k) k.lot.number k.failed

-- where it held something, a fault says nothing of the store
abbrev pub FaultsOutside : {X : Type 0} → StoreState → StoreState → Result X StoreFault → Type 0
FaultsOutside old new r = IsSafe (HeldFor old.contents.seen) old.tables new.tables r

-- the same where a lot number is left for it, and what is known of `meta` is right
abbrev pub FaultsOutsideWithLot : {P S D X : Type 0} → (g : Ghosts S) → (h : DiskGhosts D) → (old new : TableKeeper P S D) → Result X StoreFault → Type 0
FaultsOutsideWithLot g h old new r = IsSafeStore old.look.known old.lot.number (store_at g h old) (store_at g h new) r

-- its medium is that of this store
pub record SharesMedium {M : Model} (lies : Type 0) (s : StoreState) (k : KeeperState M) : Type 0 where
  pub honest : k.is_honest ↔ IsHonest s
  pub memory : k.in_memory ↔ lies

-- it is not opened again, and these parts are left
abbrev pub Refuses : {P S D : Type 0} → (p : Profile) → (g : Ghosts S) → (h : DiskGhosts D) → TableKeeper P S D → StoreFault → StoreParts S D → Type 0
Refuses p g h k f left = OpenRefused (Some p) (store_at g h k) (parts_state g h left) f

-- a call is a whole transaction, which makes this of what the store holds, where what is known of `meta` is right
abbrev pub TurnsHeld : {P S D X E : Type 0} → (g : Ghosts S) → (h : DiskGhosts D) → (old new : TableKeeper P S D) → (Holding → Holding) → Result X E → Type 0
TurnsHeld g h old new made r = ServesStore old.look.known new.look.known made (store_at g h old) (store_at g h new) r
