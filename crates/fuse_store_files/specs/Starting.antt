-- How a store is opened from its files (defined by this project).
use Rattle.std.specs.Prelude.{◌≡◌, ℕ, List, [], Some, None}
use Rattle.sqlite_disk.specs.declared.Disk.{Ghosts}
use Rattle.sqlite_wal.specs.Recovery.{Image}
use Rattle.sqlite_store.specs.declared.store.FileStore.{FileStore}
use Rattle.sqlite.specs.Files.{over_files}
use Rattle.sqlite.specs.Effect.{Database}
use Rattle.fuse_init.specs.declared.profile.Profile.{Profile}
use Rattle.fuse_tree.specs.Rowed.{rowed}
use Rattle.fuse_keeper.specs.History.{after}
use Rattle.fuse_keeper.specs.Stands.{Standing}
use Rattle.fuse_keeper.specs.KeeperState.{KeeperState, StandsFor}
use Rattle.fuse_keeper.specs.Lots.{SameLots}
use Rattle.fuse_store_tables.specs.Clearing.{IsBegun}
use Rattle.fuse_store_tables.specs.Content.{Content, LeftAs}
use Rattle.fuse_store_tables.specs.Opening.{IsStored, IsOpened}
use Rattle.fuse_store_tree.specs.Store.{records_of}
use Rattle.fuse_store_tree.specs.Holding.{Holding, lots_of}
use Rattle.fuse_tree.specs.TheTree.{tree_of}
use Rattle.fuse_store.specs.declared.new_store.NewStore.{NewStore}
use Rattle.fuse_store.specs.declared.store_keeper.StoreKeeper.{StoreKeeper}
use Rattle.fuse_store.specs.TableKeeper.{SharesMedium, LiesInMemory}
use Rattle.fuse_store.specs.StoreKeeper.{own_store, store_told}
use Rattle.fuse_store.specs.Opening.{Stored, opened_for, store_number}
use Rattle.fuse_store.specs.Starting.{begun_for, holding_for}
use Rattle.fuse_store_files.specs.declared.files.Opening.{Opening}
use Rattle.fuse_store_files.specs.declared.files.Opening.TheVariants.{Existing, Any, Fresh}
use Rattle.fuse_store_files.specs.declared.files.StoreFiles.{StoreFiles}
use Rattle.fuse_store_files.specs.Files.{StoreImage, HoldSome, FilesStand, HoldNothing}

abbrev pub path_of : {S T : Type 0} → StoreFiles S T → List ℕ
path_of files = files.path.now

-- ---- what a keeper stands for that was opened from these files

-- where a mount begins of what stood so
abbrev pub begun_at : (p : Profile) → Standing (tree_of p) → Standing (tree_of p)
begun_at p at = record { state = (tree_of p).cleared (after (tree_of p) at.state at.history); history = []; settled = [] }

-- it stands for whatever history the files stand for
abbrev pub Continues : (p : Profile) → StoreImage → KeeperState (tree_of p) → Type 0
Continues p it k = (at : Standing (tree_of p)) → FilesStand p it at → StandsFor k at.state at.history at.settled

-- a mount begins of what the files stand for
abbrev pub BeginsMountOf : (p : Profile) → StoreImage → KeeperState (tree_of p) → Type 0
BeginsMountOf p it k = (at : Standing (tree_of p)) → FilesStand p it at → StandsFor k (begun_at p at).state [] []

-- it stands for this new store, which has no lots
pub record IsNewStore (p : Profile) (new : NewStore) (k : KeeperState (tree_of p)) : Type 0 where
  pub profile : p ≡ new.kind.profile
  pub stands : StandsFor k (holding_for new).tree [] []
  pub lots : SameLots (lots_of None (holding_for new)) k.lots

-- where nothing is, a new store is made
abbrev pub BeginsNew : (p : Profile) → Image → NewStore → KeeperState (tree_of p) → Type 0
BeginsNew p image new k = HoldNothing image → IsNewStore p new k

-- so it is opened; a store that must be there isn't made
abbrev pub OpensAs : (p : Profile) → Opening → StoreImage → KeeperState (tree_of p) → Type 0
OpensAs p (Existing n) it k = Continues p it k × (HoldNothing it.tables → ⊥)
OpensAs p (Any new) it k = Continues p it k × BeginsNew p it.tables new k
OpensAs p (Fresh new) it k = BeginsMountOf p it k × BeginsNew p it.tables new k

-- its medium is that of its files
abbrev pub SharesFiles : {D E : Type 0} {g : Ghosts D} → (h : Ghosts E) → StoreKeeper (FileStore D g) E → Type 0
SharesFiles {D = D} {g = g} h k = SharesMedium (LiesInMemory {S = FileStore D g} over_files h) (own_store over_files h k) (store_told over_files h k)

-- ---- what it holds

-- what an opening makes of a store
abbrev pub kept_for : Opening → Stored → Holding
kept_for (Existing n) z = opened_for z
kept_for (Any new) z = opened_for z
kept_for (Fresh new) z = begun_for z

-- it holds this, in its lots, and has taken none
pub record KeepsHolding (p : Profile) (y : Holding) (k : KeeperState (tree_of p)) : Type 0 where
  pub held : k.holds (rowed y.tree) (records_of y.kept)
  pub lots : SameLots (lots_of None y) k.lots

-- it holds what the opening makes of this store
abbrev pub KeepsStore : (p : Profile) → Opening → Stored → KeeperState (tree_of p) → Type 0
KeepsStore p how z k = KeepsHolding p (kept_for how z) k

-- the files of a database hold a store of any version with these rows, those too that no tree has
abbrev pub FilesHoldRows : Image → Content → Type 0
FilesHoldRows image c = HoldSome (LeftAs (IsStored c)) image

-- the rows that an opening makes of them; an everyday store of version 2 gets the number
abbrev pub RowsKept : Opening → Content → Database → Type 0
RowsKept (Existing n) c = IsOpened (Some (store_number n)) c
RowsKept (Any new) c = IsOpened (Some (store_number new.number)) c
RowsKept (Fresh new) c = IsBegun (Some (store_number new.number)) c
