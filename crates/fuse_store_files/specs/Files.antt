-- What the files of a store hold: its database file, its log and its data file, as an open finds them (defined by this project).
use Rattle.std.specs.Prelude.{◌≡◌, ◌⊎◌, ℕ, List}
use Rattle.sqlite_disk.specs.declared.start.Start.{Ghosts}
use Rattle.sqlite_wal.specs.Recovery.{Image}
use Rattle.sqlite_wal.specs.Files.{image_at}
use Rattle.sqlite.specs.Tree.{Trees}
use Rattle.sqlite.specs.Effect.{Database}
use Rattle.sqlite.specs.Files.{HoldsDatabase, IsNothing, IsEmpty, AreFoundIn}
use Rattle.fuse_init.specs.declared.profile.Profile.{Profile}
use Rattle.fuse_init.specs.declared.profile.Profile.TheVariants.{Plain}
use Rattle.fuse_rows.specs.Rows.{Rows}
use Rattle.fuse_tree.specs.Rowed.{rowed}
use Rattle.fuse_tree.specs.State.{profile_of}
use Rattle.fuse_keeper.specs.Stands.{Records, Standing, StandsAt}
use Rattle.fuse_store_tables.specs.Content.{LeftAs}
use Rattle.fuse_store_tree.specs.Store.{records_of}
use Rattle.fuse_tree.specs.TheTree.{tree_of}
use Rattle.fuse_store.specs.Opening.{Stored, StoredFor, opened_for}

-- the database file with its log, and what a read returns of the data file
pub record StoreImage : Type 0 where
  pub tables : Image
  pub contents : List ℕ

-- what they held as they were opened
abbrev pub found_at : {S T : Type 0} → Ghosts S → Ghosts T → StoreImage
found_at s t = record { tables = image_at s; contents = t.db }

-- the files hold a database, and its trees are so
pub record HoldSome (P : Trees → Type 0) (image : Image) : Type 0 where
  pub trees : Trees
  pub held : ∥ HoldsDatabase image trees ∥₁
  pub so : P trees

-- The files hold this store. Of a plain one that is so whatever the data file has.
abbrev pub FilesHold : StoreImage → Stored → Type 0
FilesHold it z = HoldSome (LeftAs (StoredFor it.contents z)) it.tables

-- the law: a plain store is the same over any data file
abbrev pub PlainOverAny : Type 0
PlainOverAny = (old new : List ℕ) (z : Stored) (d : Database) → profile_of (opened_for z).tree ≡ Plain → StoredFor old z d → StoredFor new z d

-- these trees, over this data file, are those of a store of any version, and its rows and records are so once it is opened
pub record TreesTell (P : Rows → Records → Type 0) (file : List ℕ) (db : Trees) : Type 0 where
  pub store : Stored
  pub left : LeftAs (StoredFor file store) db
  pub so : P (rowed (opened_for store).tree) (records_of (opened_for store).kept)

-- the files hold a store that stands for this history, with these ids settled, from this start
abbrev pub FilesStand : (p : Profile) → StoreImage → Standing (tree_of p) → Type 0
FilesStand p it at = HoldSome (TreesTell (λ x r. StandsAt (tree_of p) (record { rows = x; records = r }) at) it.contents) it.tables

-- there is no database yet, or an empty one
abbrev pub HoldNothing : Image → Type 0
HoldNothing image = IsNothing image ⊎ HoldSome IsEmpty image

-- these trees are what an open of the files finds: those that they hold, or none
pub record AreTheirs (image : Image) (db : Trees) : Type 0 where
  pub holds : (d : Trees) → HoldsDatabase image d → db ≡ d
  pub reads : AreFoundIn image db

-- the same, and this data file has what the store in them had of the one that was found
pub record AreFound (it : StoreImage) (file : List ℕ) (db : Trees) : Type 0 where
  pub theirs : AreTheirs it.tables db
  pub contents : (z : Stored) → FilesHold it z → LeftAs (StoredFor file z) db
