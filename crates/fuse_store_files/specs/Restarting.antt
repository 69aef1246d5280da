-- A keeper whose files crash before it is opened again (defined by this project).
use Rattle.std.specs.Prelude.{◌⊎◌, ℕ, List, None, IsTrue}
use Rattle.sqlite_disk.specs.declared.Disk as disk
use Rattle.sqlite_disk.specs.declared.Files.{Files}
use Rattle.sqlite_wal.specs.Reads.{AreClean}
use Rattle.sqlite.specs.Tree.{Trees}
use Rattle.sqlite_store.specs.declared.store.FileStore.{FileStore}
use Rattle.sqlite.specs.Files.{over_files, image_of, IsCleanLeft, LeavesFiles}
use Rattle.sqlite.specs.declared.file.Leftover.{Leftover}
use Rattle.sqlite.specs.declared.file.Leftover.TheVariants as leftover
use Rattle.fuse_keeper.specs.declared.fault.StoreFault.{StoreFault}
use Rattle.fuse_keeper.specs.KeeperState.{KeeperState}
use Rattle.fuse_store_tables.specs.Faults.{IsOutside}
use Rattle.fuse_store.specs.declared.table_keeper.TableKeeper.{TableKeeper}
use Rattle.fuse_tree.specs.TheTree.{tree_of}
use Rattle.fuse_store.specs.Opening.{Stored, opened_for}
use Rattle.fuse_store.specs.TableKeeper.{conn_of, keeper_told, disk_in}
use Rattle.fuse_init.specs.declared.profile.Profile.{Profile}
use Rattle.fuse_store_files.specs.declared.crash_keeper.CrashKeeper.{CrashKeeper}
use Rattle.fuse_store_files.specs.declared.left.CrashedFiles.{CrashedFiles}
use Rattle.fuse_store_files.specs.declared.left.StoreLeft.{StoreLeft}
use Rattle.fuse_store_files.specs.Files.{StoreImage, FilesHold, AreFound}
use Rattle.fuse_store_files.specs.Left.{LeavesStore, IsOpenedFrom, Beside, AreCleanLeft, data_left, disk_of}
use Rattle.fuse_store_files.specs.Starting.{KeepsHolding}
use Rattle.fuse_store_files.specs.Crashing.{CrashRelations, FilesCrash, left_image}

abbrev pub inner_of : {P D E : Type 0} {g : disk.Ghosts D} → CrashKeeper P D E g → TableKeeper P (FileStore D g) E
inner_of k = k.inner

abbrev pub crash_told : {P D E : Type 0} {g : disk.Ghosts D} (p : Profile) (h : disk.Ghosts E) → CrashKeeper P D E g → KeeperState (tree_of p)
crash_told p h k = keeper_told p over_files h (inner_of k)

-- a crash leaves what the crashed files hold, or what the opening makes of that
abbrev pub LeavesRestarted : StoreImage → List ℕ → Trees → Type 0
LeavesRestarted it file db = AreFound it file db ⊎ IsOpenedFrom it file db

module _ {D E : Type 0} {g : disk.Ghosts D} (h : disk.Ghosts E) where
  -- What is left of the database, beside this data file. Files that were not opened recover to what they recovered to.
  abbrev pub LeavesCrashed : CrashedFiles D E → List ℕ → Leftover D g → Type 0
  LeavesCrashed files file (leftover.Files now) = IsCleanLeft {g = g} (leftover.Files now) → LeavesFiles {g = g} files.tables (leftover.Files now)
  LeavesCrashed files file (leftover.Unopened now) = IsCleanLeft {g = g} (leftover.Unopened now) → LeavesFiles {g = g} files.tables (leftover.Unopened now)
  LeavesCrashed files file (leftover.Store it) = LeavesStore (LeavesRestarted (left_image g h files) file) (image_of g files.tables) it

module _ {P D E : Type 0} {g : disk.Ghosts D} (h : disk.Ghosts E) (p : Profile) (crashed : CrashRelations D E) where
  -- its files crashed, and the new keeper holds what was left in them
  pub record ReopensCrashed (old new : CrashKeeper P D E g) : Type 0 where
    pub left : CrashedFiles D E
    pub files : FilesCrash h crashed (conn_of over_files h (inner_of old)) (disk_of (inner_of old)) left
    pub keeps : (crash_told p h new).is_honest → (z : Stored) → FilesHold (left_image g h left) z
        → KeepsHolding p (opened_for z) (crash_told p h new)

  -- It is not opened again, after its files crashed. Where a crash of it leaves a store, the fault says nothing of that.
  pub record CrashRefuses (k : CrashKeeper P D E g) (f : StoreFault) (rest : StoreLeft D E g) : Type 0 where
    pub left : CrashedFiles D E
    pub files : FilesCrash h crashed (conn_of over_files h (inner_of k)) (disk_of (inner_of k)) left
    pub fault : AreClean g left.tables.log left.tables.db → IsTrue (disk_in h left.disk).is_clean → (crash_told p h k).leaves_whole
        → AreCleanLeft h rest → IsOutside f
    pub leaves : Beside (data_left h (disk_in h left.disk).seen rest.disk) (λ file. LeavesCrashed h left file rest.tables)
