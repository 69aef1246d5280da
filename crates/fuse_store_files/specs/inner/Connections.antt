-- The end of a connection over files (defined by this project).
use Rattle.std.specs.Prelude.{IsTrue}
use Rattle.sqlite_disk.specs.declared.Disk.{Ghosts}
use Rattle.sqlite_disk.specs.declared.Files.{Files}
use Rattle.sqlite_wal.specs.Reads.{AreClean}
use Rattle.sqlite_store.specs.declared.store.FileStore.{FileStore}
use Rattle.sqlite_store.specs.FileStore.{view, recovers}
use Rattle.sqlite_trees.specs.View.{IsClean}
use Rattle.sqlite.specs.State.{HasCleanDisk}
use Rattle.sqlite.specs.Tree.{Trees}
use Rattle.sqlite.specs.Held.{Held, AreDatabases}
use Rattle.sqlite.specs.Files.{file_state}
use Rattle.sqlite.specs.Closing.{IsCopied}
use Rattle.fuse_store_files.specs.Left.{LeavesOf, LeavesClosed, LeavesUnclosed}

-- the connection ended as this store, and a crash leaves of its files, before and after, only what it could leave before
pub record EndsAsStore {D : Type 0} {g : Ghosts D} (c : Held (FileStore D g)) : Type 0 where
  pub ended : FileStore D g
  pub its_own : (db : Trees) → recovers ended db → recovers c.store db
  pub before : IsClean (view ended) → AreDatabases (recovers c.store) → LeavesOf (recovers c.store) c.store
  pub leaves : LeavesOf (file_state c).may_leave ended
  pub honest : IsClean (view ended) → HasCleanDisk (file_state c)

-- its files were closed, and a crash leaves of them only what it could leave before
pub record IsClosedAs {D : Type 0} {g : Ghosts D} (c : Held (FileStore D g)) (files : Files D) : Type 0 where
  pub leaves : LeavesClosed g (file_state c).may_leave files
  pub honest : AreClean g files.log files.db → HasCleanDisk (file_state c)

-- the last commit was copied into the database file
abbrev pub IsCopiedTo : {D : Type 0} {g : Ghosts D} → Held (FileStore D g) → Files D → Type 0
IsCopiedTo {g = g} c files = AreClean g files.log files.db → IsCopied c files

-- It was not copied, and each database that the store recovers to is one that a crash could leave before. Where its trees have their
-- numbers, what a crash leaves of it holds one.
pub record IsUncopied {D : Type 0} {g : Ghosts D} (c : Held (FileStore D g)) (it : FileStore D g) : Type 0 where
  pub leaves : LeavesUnclosed (file_state c).may_leave it
  pub holds : IsTrue (view it).is_numbered → LeavesOf (file_state c).may_leave it
  pub honest : IsClean (view it) → HasCleanDisk (file_state c)
