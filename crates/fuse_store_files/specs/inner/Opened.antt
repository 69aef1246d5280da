-- A store that is opened over any database, and files that are not opened (defined by this project).
use Rattle.std.specs.Prelude.{◌≡◌, Bool, IsTrue, codes}
use Rattle.std.specs.Option.{is_some}
use Rattle.sqlite_disk.specs.declared.Disk.{Ghosts}
use Rattle.sqlite_wal.specs.Recovery.{Image}
use Rattle.sqlite_schema.specs.Names.{table_named}
use Rattle.sqlite.specs.Schema.{Schema}
use Rattle.sqlite.specs.Tree.{Trees}
use Rattle.sqlite.specs.declared.error.Error.{Error}
use Rattle.sqlite.specs.declared.file.Leftover.{Leftover}
use Rattle.sqlite.specs.Files.{IsCleanLeft, FailsToOpenFiles}
use Rattle.fuse_init.specs.declared.profile.Profile.{Profile}
use Rattle.fuse_keeper.specs.KeeperState.{KeeperState}
use Rattle.fuse_store_tree.specs.StoreState.{StoreState}
use Rattle.fuse_tree.specs.TheTree.{tree_of}
use Rattle.fuse_tree.specs.State.{profile_of}
use Rattle.fuse_store.specs.Creating.{IsBlank}
use Rattle.fuse_store.specs.Opening.{Stored, WasFor, LeavesOver, opened_for}
use Rattle.fuse_store.specs.Starting.{BeginsAfter, LeavesStarted, LeavesFresh}
use Rattle.fuse_store_files.specs.declared.files.Opening.{Opening}
use Rattle.fuse_store_files.specs.declared.files.Opening.TheVariants.{Existing, Any, Fresh}
use Rattle.fuse_store_files.specs.Starting.{IsNewStore, KeepsStore}
use Rattle.fuse_store_files.specs.Left.{StaysAsFound}

-- what an opening makes of a blank database
abbrev pub MakesNew : (p : Profile) → Opening → KeeperState (tree_of p) → Type 0
MakesNew p (Existing n) k = ⊥
MakesNew p (Any new) k = IsNewStore p new k
MakesNew p (Fresh new) k = IsNewStore p new k

-- a mount of this store begins, where the opening begins one
abbrev pub MayBeginMount : (p : Profile) → Opening → Stored → KeeperState (tree_of p) → Type 0
MayBeginMount p (Existing n) z k = Unit {0}
MayBeginMount p (Any new) z k = Unit {0}
MayBeginMount p (Fresh new) z k = BeginsAfter p z k

-- a keeper was opened so over this database
pub record OpensOver (p : Profile) (how : Opening) (s : StoreState) (k : KeeperState (tree_of p)) : Type 0 where
  pub profile : (z : Stored) → WasFor z s → profile_of (opened_for z).tree ≡ p
  pub keeps : (z : Stored) → WasFor z s → KeepsStore p how z k
  pub begins : (z : Stored) → WasFor z s → MayBeginMount p how z k
  pub makes : IsBlank s.tables → IsTrue s.tables.is_open → MakesNew p how k

-- what a crash may leave of an opening that failed, beside what it could leave before
abbrev pub LeavesMade : Opening → StoreState → StoreState → Trees → Type 0
LeavesMade (Existing n) old left = λ db. (z : Stored) → WasFor z old → LeavesOver z left (opened_for z) db
LeavesMade (Any new) old left = LeavesStarted new old left
LeavesMade (Fresh new) old left = LeavesFresh new old left

-- the files were not opened, for this error
pub record IsNotOpened {D : Type 0} {g : Ghosts D} (image : Image) (it : Leftover D g) (e : Error) : Type 0 where
  pub left : StaysAsFound image it
  pub cause : IsCleanLeft it → FailsToOpenFiles left.files it e

-- the database has the table of pieces, as that of a store with a data file does
abbrev pub has_pieces : Schema → Bool
has_pieces s = is_some (table_named s (codes "pieces"))
