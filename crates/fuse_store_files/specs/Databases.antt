-- Files that hold any database, a store or not: the database file and its log (defined by this project).
use Rattle.std.specs.Prelude.{◌≡◌, ◌⊎◌, ⊤}
use Rattle.sqlite_disk.specs.declared.Disk.{Ghosts}
use Rattle.sqlite_wal.specs.Recovery.{Image}
use Rattle.sqlite_store.specs.FileStore.{recovers}
use Rattle.sqlite.specs.Tree.{Trees}
use Rattle.sqlite.specs.State.{State}
use Rattle.sqlite.specs.Effect.{Database, IsDatabase}
use Rattle.sqlite.specs.Files.{HoldsDatabase, IsCleanLeft, AreFoundIn}
use Rattle.sqlite.specs.declared.file.Leftover.{Leftover}
use Rattle.sqlite.specs.declared.file.Leftover.TheVariants as left
use Rattle.sqlite.specs.declared.error.Error.TheVariants.{SqliteFailure}
use Rattle.sqlite.specs.declared.error.ErrorCode.TheVariants.{CannotOpen, DatabaseBusy}
use Rattle.fuse_init.specs.declared.profile.Profile.{Profile}
use Rattle.fuse_keeper.specs.declared.fault.StoreFault.{StoreFault}
use Rattle.fuse_keeper.specs.declared.fault.StoreFault.TheVariants.{Memory, Sql}
use Rattle.fuse_store_tables.specs.Content.{Content}
use Rattle.fuse_store_tables.specs.Faults.{IsOutside}
use Rattle.fuse_store_tables.specs.Layout.{no_schema}
use Rattle.fuse_store_tables.specs.Opening.{IsLaid, HasMeta, profile_in}
use Rattle.fuse_store_tables.specs.Saying.{Says, IsTabled, IsToMigrate}
use Rattle.fuse_store_files.specs.declared.files.Opening.{Opening}
use Rattle.fuse_store_files.specs.declared.files.Opening.TheVariants.{Existing, Any, Fresh}
use Rattle.fuse_store_files.specs.Files.{HoldNothing, AreTheirs}
use Rattle.fuse_store_files.specs.Left.{TablesAsFound, StaysAsFound}

-- the files hold this database
pub record FilesHave (image : Image) (d : Database) : Type 0 where
  pub sound : IsDatabase d
  pub held : ∥ HoldsDatabase image d.trees ∥₁

-- only a store that is there is opened
abbrev pub IsExisting : Opening → Type 0
IsExisting (Existing n) = ⊤
IsExisting (Any new) = ⊥
IsExisting (Fresh new) = ⊥

-- it is opened, and no new store is made in it
abbrev pub IsToOpen : Opening → Database → Type 0
IsToOpen (Existing n) d = ⊤
IsToOpen (Any new) d = ¬ (d.schema ≡ no_schema)
IsToOpen (Fresh new) d = ¬ (d.schema ≡ no_schema)

-- where there is nothing, a new store is made
abbrev pub IsToMake : Opening → Type 0
IsToMake (Existing n) = ⊥
IsToMake (Any new) = ⊤
IsToMake (Fresh new) = ⊤

-- only such a database is changed by the opening
abbrev pub IsToChange : Opening → Database → Type 0
IsToChange (Existing n) d = IsToMigrate d
IsToChange (Any new) d = IsToMigrate d
IsToChange (Fresh new) d = IsTabled d

-- A keeper was opened over the files: they recover to a sound database, or there was nothing. A database in them that is opened has all
-- tables of a version, and its `meta` is whole.
pub record OpensOwn (how : Opening) (image : Image) : Type 0 where
  pub db : Database
  pub found : AreFoundIn image db.trees
  pub sound : IsDatabase db
  pub tabled : (d : Database) → FilesHave image d → IsToOpen how d → IsTabled d
  pub whole : (d : Database) → FilesHave image d → IsToOpen how d → (c : Content) → IsLaid c d → HasMeta c

-- the rows of a database in them that is opened are of this profile, those too that no tree has
abbrev pub FilesHaveProfile : Profile → Opening → Image → Type 0
FilesHaveProfile p how image = (d : Database) → FilesHave image d → IsToOpen how d → (c : Content) → IsLaid c d → profile_in c ≡ p

-- a crash leaves what an open of the files finds, or one database as a whole: of two that it may leave both are that one
abbrev pub LeavesOnce : {D : Type 0} {g : Ghosts D} → Image → Leftover D g → Type 0
LeavesOnce {g = g} image (left.Files it) = StaysAsFound {g = g} image (left.Files it)
LeavesOnce {g = g} image (left.Unopened it) = StaysAsFound {g = g} image (left.Unopened it)
LeavesOnce image (left.Store it) = (a b : Trees) → recovers it a → recovers it b → AreTheirs image a ⊎ (AreTheirs image b ⊎ (a ≡ b))

-- a keeper was opened over it: where it isn't one that is to be changed, a crash leaves what was found
abbrev pub KeepsFound : Opening → Image → State → Type 0
KeepsFound how image s = (d : Database) → FilesHave image d → IsToOpen how d → ¬ (IsToChange how d) → (db : Trees) → s.may_leave db → db ≡ d.trees

-- None was opened. What the fault says of it is so; where it isn't one that is to be changed, it is left as it was found. Where there was
-- nothing, the fault is out of memory or of SQL.
pub record FailsOver {D : Type 0} {g : Ghosts D} (how : Opening) (image : Image) (f : StoreFault) (it : Leftover D g) : Type 0 where
  pub says : IsCleanLeft it → (d : Database) → FilesHave image d → IsToOpen how d → Says d f
  pub alone : (d : Database) → FilesHave image d → IsToOpen how d → ¬ (IsToChange how d) → TablesAsFound image it
  pub once : (d : Database) → FilesHave image d → IsToOpen how d → LeavesOnce image it
  pub blank : IsCleanLeft it → IsToMake how → HoldNothing image → IsOutside f

-- no file was opened: there is no memory, or the path can't be opened, or is in use
abbrev pub IsNeverOpened : StoreFault → Type 0
IsNeverOpened f = (f ≡ Memory) ⊎ ((f ≡ Sql (SqliteFailure CannotOpen)) ⊎ (f ≡ Sql (SqliteFailure DatabaseBusy)))
