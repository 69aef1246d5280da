-- What a crash leaves of the files of a store (defined by this project).
use Rattle.std.specs.Prelude.{◌≡◌, Option, Some, None, IsTrue}
use Rattle.sqlite_disk.specs.declared.Disk.{Ghosts}
use Rattle.sqlite_disk.specs.declared.Files.{Files}
use Rattle.sqlite_disk.specs.Disk.{Only}
use Rattle.sqlite_wal.specs.Reads.{AreClean}
use Rattle.sqlite.specs.Tree.{Trees}
use Rattle.sqlite_store.specs.declared.store.FileStore.{FileStore}
use Rattle.sqlite_store.specs.FileStore.{recovers}
use Rattle.sqlite_store.specs.FileStore as store
use Rattle.sqlite.specs.State.{HasCleanDisk}
use Rattle.sqlite.specs.Held.{Held}
use Rattle.sqlite.specs.Files.{file_state, image_of}
use Rattle.fuse_store.specs.TableKeeper.{disk_in}
use Rattle.fuse_store_files.specs.declared.left.CrashedFiles.{CrashedFiles}
use Rattle.fuse_store_files.specs.Files.{StoreImage, HoldSome}

-- crash relations of the disks of a store: what one crash makes of the database file or its log, and of the data file
pub record CrashRelations (D E : Type 0) : Type 1 where
  pub tables : D → D → Type 0
  pub contents : E → E → Type 0

abbrev pub crash_relations : {D E : Type 0} → (D → D → Type 0) → (E → E → Type 0) → CrashRelations D E
crash_relations tables contents = record { tables = tables; contents = contents }

-- A connection ended as this store, and then both of its files crashed, once. What is left of them holds a database that a crash of
-- the connection could leave.
pub record Crashes {D : Type 0} {g : Ghosts D} (crashed : D → D → Type 0) (old : Held (FileStore D g)) (left : Files D) : Type 0 where
  pub ended : FileStore D g
  pub its_own : (db : Trees) → recovers ended db → (file_state old).may_leave db
  pub log : crashed (store.files ended).0 left.log
  pub db : crashed (store.files ended).1 left.db
  pub honest : AreClean g left.log left.db → HasCleanDisk (file_state old)
  pub holds : AreClean g left.log left.db → HoldSome (file_state old).may_leave (image_of g left)

-- a data file crashed, once; without one there is none afterwards
abbrev pub CrashesTo : {E : Type 0} → (E → E → Type 0) → Option E → Option E → Type 0
CrashesTo crashed None None = Unit {0}
CrashesTo crashed (Some old) (Some new) = crashed old new
CrashesTo crashed _ _ = ⊥

-- what is left of a data file is one of the contents that a crash could leave
pub record DataCrashes {E : Type 0} (h : Ghosts E) (crashed : E → E → Type 0) (old new : Option E) : Type 0 where
  pub once : CrashesTo crashed old new
  pub left : (disk_in h old).may_leave (disk_in h new).seen
  pub settled : Only (disk_in h new).seen (disk_in h new).may_leave
  pub clean : IsTrue (disk_in h new).is_clean → IsTrue (disk_in h old).is_clean

-- so it is of the files of a connection, and of the data file beside it
pub record FilesCrash {D E : Type 0} {g : Ghosts D} (h : Ghosts E) (crashed : CrashRelations D E) (conn : Held (FileStore D g)) (disk : Option E)
    (left : CrashedFiles D E) : Type 0 where
  pub tables : Crashes crashed.tables conn left.tables
  pub contents : DataCrashes h crashed.contents disk left.disk

-- what a crash left of them
abbrev pub left_image : {D E : Type 0} → Ghosts D → Ghosts E → CrashedFiles D E → StoreImage
left_image g h left = record { tables = image_of g left.tables; contents = (disk_in h left.disk).seen }
