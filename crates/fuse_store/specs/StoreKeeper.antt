-- The state of a keeper over a store of either profile (defined by this project).
use Rattle.std.specs.Prelude.{ℕ, Bool, Option}
use Rattle.sqlite_trees.specs.declared.store.Store.{Ghosts}
use Rattle.sqlite_disk.specs.declared.Disk.{Ghosts as DiskGhosts}
use Rattle.sqlite.specs.Held.{Held}
use Rattle.fuse_data.specs.declared.data_file.DataFile.{DataFile}
use Rattle.fuse_init.specs.declared.profile.Profile.{Profile}
use Rattle.fuse_init.specs.declared.profile.Profile.TheVariants as profiles
use Rattle.fuse_keeper.specs.KeeperState.{KeeperState}
use Rattle.fuse_store.specs.declared.store_keeper.StoreKeeper.{StoreKeeper}
use Rattle.fuse_store.specs.declared.store_keeper.StoreKeeper.TheVariants.{Plain, Everyday}
use Rattle.fuse_store_tree.specs.declared.meta.Meta.{Meta}
use Rattle.fuse_store_tree.specs.StoreState.{StoreState}
use Rattle.fuse_tree.specs.TheTree.{tree_of}
use Rattle.fuse_store.specs.TableState.{table_told}
use Rattle.fuse_store.specs.TableKeeper.{LiesInMemory, store_at}

module _ {S D : Type 0} where
  abbrev pub own_profile : StoreKeeper S D → Profile
  own_profile (Plain k) = profiles.Plain
  own_profile (Everyday k) = profiles.Everyday

  abbrev pub own_conn : StoreKeeper S D → Held S
  own_conn (Plain k) = k.look.conn
  own_conn (Everyday k) = k.look.conn

  abbrev pub own_file : StoreKeeper S D → Option (DataFile D)
  own_file (Plain k) = k.look.contents.file
  own_file (Everyday k) = k.look.contents.file

  abbrev pub own_store : (g : Ghosts S) → (h : DiskGhosts D) → StoreKeeper S D → StoreState
  own_store g h (Plain k) = store_at g h k
  own_store g h (Everyday k) = store_at g h k

  abbrev pub own_lot : StoreKeeper S D → Option ℕ
  own_lot (Plain k) = k.lot.number
  own_lot (Everyday k) = k.lot.number

  abbrev pub own_known : StoreKeeper S D → Option Meta
  own_known (Plain k) = k.look.known
  own_known (Everyday k) = k.look.known

  abbrev pub own_failed : StoreKeeper S D → Bool
  own_failed (Plain k) = k.failed
  own_failed (Everyday k) = k.failed

  -- that of the keeper that it is
  abbrev pub store_told : (g : Ghosts S) → (h : DiskGhosts D) → (k : StoreKeeper S D) → KeeperState (tree_of (own_profile k))
  store_told g h k = table_told (own_profile k) (LiesInMemory g h) (own_known k) (own_store g h k) (own_lot k) (own_failed k)
