-- What is left of the files of a store (defined by this project).
use Rattle.std.specs.Prelude.{◌≡◌, ◌⊎◌, ℕ, List, Option, Some, None, Result, IfOk, IfErr, IsTrue, option_map}
use Rattle.sqlite_disk.specs.declared.Disk.{Ghosts}
use Rattle.sqlite_disk.specs.declared.Files.{Files}
use Rattle.sqlite_wal.specs.Recovery.{Image}
use Rattle.sqlite_wal.specs.Files.{outcomes}
use Rattle.sqlite_wal.specs.Reads.{AreClean}
use Rattle.sqlite.specs.Tree.{Trees}
use Rattle.sqlite_store.specs.declared.store.FileStore.{FileStore}
use Rattle.sqlite_store.specs.FileStore.{state, view, recovers}
use Rattle.sqlite_trees.specs.View.{IsClean}
use Rattle.sqlite.specs.declared.file.Leftover.{Leftover}
use Rattle.sqlite.specs.declared.file.Leftover.TheVariants as left
use Rattle.sqlite.specs.Files.{image_of, over_files, file_state, IsCleanLeft, LeavesFiles}
use Rattle.sqlite.specs.Closing.{IsCopied}
use Rattle.sqlite.specs.Held.{AreDatabases}
use Rattle.fuse_data.specs.State.{DataState}
use Rattle.fuse_init.specs.declared.profile.Profile.{Profile}
use Rattle.fuse_init.specs.declared.profile.Profile.TheVariants.{Plain, Everyday}
use Rattle.fuse_store_tables.specs.Content.{LeftAs}
use Rattle.fuse_store_tree.specs.Holding.{HeldFor}
use Rattle.fuse_store.specs.Opening.{Stored, OpenedFor}
use Rattle.fuse_store.specs.Starting.{BegunFor, holding_for}
use Rattle.fuse_store.specs.declared.table_keeper.TableKeeper.{TableKeeper}
use Rattle.fuse_store.specs.TableKeeper.{conn_of, store_at, disk_in, keeper_told}
use Rattle.fuse_store_files.specs.declared.left.StoreLeft.{StoreLeft}
use Rattle.fuse_store_files.specs.declared.files.Opening.{Opening}
use Rattle.fuse_store_files.specs.declared.files.Opening.TheVariants.{Existing, Any, Fresh}
use Rattle.fuse_store_files.specs.Files.{StoreImage, HoldSome, FilesHold, HoldNothing, TreesTell, AreTheirs, AreFound}

-- ---- after a run

-- whatever a crash leaves of the files of a database, where the disk returned what was written, holds a database of this kind
abbrev pub LeavesOf : {D : Type 0} {g : Ghosts D} → (Trees → Type 0) → FileStore D g → Type 0
LeavesOf P it = (image : Image) → (state it).may_leave image → HoldSome P image

-- so it is of files that were closed
abbrev pub LeavesClosed : {D : Type 0} → Ghosts D → (Trees → Type 0) → Files D → Type 0
LeavesClosed g P files = AreClean g files.log files.db → (image : Image) → outcomes g files.log files.db image → HoldSome P image

-- each database that a store recovers to is of this kind
abbrev pub LeavesUnclosed : {D : Type 0} {g : Ghosts D} → (Trees → Type 0) → FileStore D g → Type 0
LeavesUnclosed P it = (db : Trees) → recovers it db → P db

-- so it is beside each content that a crash leaves of the data file
abbrev pub Beside : (List ℕ → Type 0) → (List ℕ → Type 0) → Type 0
Beside may_leave P = (file : List ℕ) → may_leave file → P file

-- what may lie beside the tables of a store of this profile: beside a plain one anything, else what a crash leaves of its data file
abbrev pub lies_beside : Profile → DataState → List ℕ → Type 0
lies_beside Plain s file = Unit {0}
lies_beside Everyday s file = s.may_leave file

-- the store of a keeper's connection, and the disk of its data file
abbrev pub own_store : {P D E : Type 0} {g : Ghosts D} → TableKeeper P (FileStore D g) E → FileStore D g
own_store keeper = keeper.look.conn.store

abbrev pub disk_of : {P D E : Type 0} {g : Ghosts D} → TableKeeper P (FileStore D g) E → Option E
disk_of keeper = option_map (λ file. file.disk) keeper.look.contents.file

module _ {P D E : Type 0} {g : Ghosts D} (h : Ghosts E) where
  -- its data file
  abbrev pub own_data : TableKeeper P (FileStore D g) E → DataState
  own_data keeper = (store_at over_files h keeper).contents

  -- where a crash of the keeper leaves a store, these trees over this data file are one that it could leave
  abbrev pub TellsOf : Profile → TableKeeper P (FileStore D g) E → List ℕ → Trees → Type 0
  TellsOf p keeper = TreesTell (keeper_told p over_files h keeper).may_leave

  -- a crash of the keeper leaves a store, and its data file has returned what was written
  abbrev pub LeavesWhole : Profile → TableKeeper P (FileStore D g) E → Type 0
  LeavesWhole p keeper = (keeper_told p over_files h keeper).leaves_whole × IsTrue (own_data keeper).is_clean

-- A keeper was closed. Its store ended as this one, before the log was copied into the database file; then its files were closed, or that
-- failed. What a crash leaves is what a crash of the keeper could leave: of the store as the keeper had it, if the disk returned what was
-- written until the log was to be copied, of the store that it ended as, and of what is left; each beside any content of the data file that
-- a crash leaves, and of a plain store beside anything. Of a store that could not be closed, so it is where its trees have their numbers; in any case each database that it
-- recovers to is one. It is honest no longer than the keeper was. Whatever the database is, with its lots and all other rows, it is one that
-- a crash of the keeper's connection could leave; and if all was closed, what was committed last is in the database file alone.
pub record Closes {P D E : Type 0} {g : Ghosts D} (h : Ghosts E) (p : Profile) (keeper : TableKeeper P (FileStore D g) E)
    (left : Result (Files D) (FileStore D g)) (disk : Option E) : Type 0 where
  pub ended : FileStore D g
  pub its_own : (db : Trees) → recovers ended db → recovers (own_store keeper) db
  pub before : LeavesWhole h p keeper → IsClean (view ended) → Beside (lies_beside p (own_data h keeper)) (λ file. LeavesOf (TellsOf h p keeper file) (own_store keeper))
  pub at_end : LeavesWhole h p keeper → Beside (lies_beside p (own_data h keeper)) (λ file. LeavesOf (TellsOf h p keeper file) ended)
  pub closed : LeavesWhole h p keeper → Beside (lies_beside p (own_data h keeper)) (λ file. IfOk left (LeavesClosed g (TellsOf h p keeper file)))
  pub unclosed : LeavesWhole h p keeper → Beside (lies_beside p (own_data h keeper)) (λ file. IfErr left (LeavesUnclosed (TellsOf h p keeper file)))
  pub uncopied : LeavesWhole h p keeper → Beside (lies_beside p (own_data h keeper)) (λ file. IfErr left (λ it. IsTrue (view it).is_numbered → LeavesOf (TellsOf h p keeper file) it))
  pub leaves_before : IsClean (view ended) → AreDatabases (file_state (conn_of over_files h keeper)).may_leave
      → LeavesOf (file_state (conn_of over_files h keeper)).may_leave (own_store keeper)
  pub leaves : LeavesOf (file_state (conn_of over_files h keeper)).may_leave ended
  pub leaves_closed : IfOk left (LeavesClosed g (file_state (conn_of over_files h keeper)).may_leave)
  pub leaves_unclosed : IfErr left (LeavesUnclosed (file_state (conn_of over_files h keeper)).may_leave)
  pub leaves_uncopied : IfErr left (λ it. IsTrue (view it).is_numbered → LeavesOf (file_state (conn_of over_files h keeper)).may_leave it)
  pub copied : IfOk left (λ files. AreClean g files.log files.db → IsCopied (conn_of over_files h keeper) files)
  pub honest_end : IsClean (view ended) → IsTrue (own_data h keeper).is_clean → (keeper_told p over_files h keeper).is_honest
  pub honest_closed : IfOk left (λ files. AreClean g files.log files.db → IsTrue (own_data h keeper).is_clean → (keeper_told p over_files h keeper).is_honest)
  pub honest_unclosed : IfErr left (λ it. IsClean (view it) → IsTrue (own_data h keeper).is_clean → (keeper_told p over_files h keeper).is_honest)
  -- the data file is as the keeper had it
  pub disk_leaves : (file : List ℕ) → lies_beside p (disk_in h disk) file → lies_beside p (own_data h keeper) file
  pub disk_clean : IsTrue (disk_in h disk).is_clean → IsTrue (own_data h keeper).is_clean

-- ---- after an opening that failed

-- the trees and the data file are those of the opened store, of what the files hold
abbrev pub IsOpenedFrom : StoreImage → List ℕ → Trees → Type 0
IsOpenedFrom it file db = (z : Stored) → FilesHold it z → LeftAs (OpenedFor file z) db

-- they are those of the store that the opening makes of it
abbrev pub IsMadeBy : Opening → StoreImage → List ℕ → Trees → Type 0
IsMadeBy (Existing n) it file db = IsOpenedFrom it file db
IsMadeBy (Any new) it file db = IsOpenedFrom it file db × (HoldNothing it.tables → LeftAs (HeldFor file (holding_for new)) db)
IsMadeBy (Fresh new) it file db =
    ((z : Stored) → FilesHold it z → LeftAs (BegunFor file z) db) × (HoldNothing it.tables → LeftAs (HeldFor file (holding_for new)) db)

-- a crash leaves this of the data file: where it wasn't opened, what was found
abbrev pub data_left : {E : Type 0} → Ghosts E → List ℕ → Option E → List ℕ → Type 0
data_left h found None = λ file. file ≡ found
data_left h found (Some disk) = h.may_leave disk

module _ {D : Type 0} {g : Ghosts D} where
  -- the files of the database held just this, were not opened, and what is left of them recovers to what they recover to
  pub record StaysAsFound (image : Image) (it : Leftover D g) : Type 0 where
    pub files : Files D
    pub held : image_of g files ≡ image
    pub alone : (i : Image) → outcomes g files.log files.db i → i ≡ image
    pub kept : IsCleanLeft it → LeavesFiles files it

  -- Each database that the store recovers to is of this kind. Where the files held a database, and the store's trees have their numbers,
  -- what a crash leaves of it holds one.
  pub record LeavesStore (P : Trees → Type 0) (image : Image) (it : FileStore D g) : Type 0 where
    pub each : LeavesUnclosed P it
    pub holds : IsTrue (view it).is_numbered → HoldSome (λ db. Unit {0}) image → LeavesOf P it

  -- so it is, or a crash of the store leaves what an open of the files finds
  abbrev pub TablesAsFound : Image → Leftover D g → Type 0
  TablesAsFound image (left.Files it) = StaysAsFound image (left.Files it)
  TablesAsFound image (left.Unopened it) = StaysAsFound image (left.Unopened it)
  TablesAsFound image (left.Store it) = LeavesStore (AreTheirs image) image it

  -- What is left of the database, beside this data file: neither was opened, or what a crash leaves is so.
  abbrev pub LeavesTables : (StoreImage → List ℕ → Trees → Type 0) → StoreImage → List ℕ → Leftover D g → Type 0
  LeavesTables P it file (left.Files files) = StaysAsFound it.tables (left.Files files) × (file ≡ it.contents)
  LeavesTables P it file (left.Unopened pager) = StaysAsFound it.tables (left.Unopened pager) × (file ≡ it.contents)
  LeavesTables P it file (left.Store store) = LeavesStore (P it file) it.tables store

module _ {D E : Type 0} {g : Ghosts D} (h : Ghosts E) where
  -- all of them have returned what was written
  abbrev pub AreCleanLeft : StoreLeft D E g → Type 0
  AreCleanLeft it = IsCleanLeft it.tables × IsTrue (disk_in h it.disk).is_clean

  -- whatever a crash leaves is what was found
  abbrev pub LeavesAsFound : StoreImage → StoreLeft D E g → Type 0
  LeavesAsFound found it = Beside (data_left h found.contents it.disk) (λ file. LeavesTables AreFound found file it.tables)

  -- the same, or what the opening makes
  abbrev pub LeavesOpening : Opening → StoreImage → StoreLeft D E g → Type 0
  LeavesOpening how found it =
      Beside (data_left h found.contents it.disk) (λ file. LeavesTables (λ f x db. AreFound f x db ⊎ IsMadeBy how f x db) found file it.tables)
