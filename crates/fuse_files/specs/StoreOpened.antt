-- A keeper that was opened from the files of a store (defined by this project).
use Rattle.std.specs.Prelude.{◌≡◌}
use Rattle.sqlite_disk.specs.declared.Disk.{Ghosts}
use Rattle.sqlite_store.specs.declared.store.FileStore.{FileStore}
use Rattle.sqlite.specs.Files.{file_state, over_files}
use Rattle.fuse_init.specs.declared.profile.Profile.{Profile}
use Rattle.fuse_keeper.specs.KeeperState.{IsFirm}
use Rattle.fuse_store_tables.specs.Content.{Content}
use Rattle.fuse_store_tables.specs.Moves.{RestsAs}
use Rattle.fuse_tree.specs.State.{profile_of}
use Rattle.fuse_store.specs.Opening.{Stored, opened_for}
use Rattle.fuse_store.specs.declared.table_keeper.TableKeeper.{TableKeeper}
use Rattle.fuse_store.specs.TableKeeper.{conn_of, keeper_told}
use Rattle.fuse_store_files.specs.declared.files.Opening.{Opening}
use Rattle.fuse_store_files.specs.Databases.{OpensOwn}
use Rattle.fuse_store_files.specs.Files.{StoreImage, FilesHold}
use Rattle.fuse_store_files.specs.Starting.{OpensAs, KeepsStore, FilesHoldRows, RowsKept}

-- the clauses of `open_store` on its keeper, if the store is clean; its profile is that of the store
pub record OpenedFrom {P D E : Type 0} {g : Ghosts D} (h : Ghosts E) (p : Profile) (how : Opening) (first : StoreImage)
    (keeper : TableKeeper P (FileStore D g) E) : Type 0 where
  pub profile : (keeper_told p over_files h keeper).is_honest → (z : Stored) → FilesHold first z → profile_of (opened_for z).tree ≡ p
  pub opened : (keeper_told p over_files h keeper).is_honest → OpensAs p how first (keeper_told p over_files h keeper)
  pub kept : (keeper_told p over_files h keeper).is_honest → (z : Stored) → FilesHold first z → KeepsStore p how z (keeper_told p over_files h keeper)
  pub rows : (keeper_told p over_files h keeper).is_honest → (c : Content) → FilesHoldRows first.tables c → RestsAs (RowsKept how c) (file_state (conn_of over_files h keeper))
  pub own : (keeper_told p over_files h keeper).is_honest → OpensOwn how first.tables
  pub firm : (keeper_told p over_files h keeper).is_honest → IsFirm (keeper_told p over_files h keeper)
