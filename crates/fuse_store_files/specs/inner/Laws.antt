-- The laws of the `impl` of `Keeper` for `CrashKeeper` (defined by this project). The proofs are here because an `impl` takes them from
-- definitions alone.
use Rattle.std.specs.Prelude.{◌≡◌, Option, IsTrue}
use Rattle.sqlite_trees.specs.declared.store.Store.{Ghosts}
use Rattle.sqlite_disk.specs.declared.Disk as disk
use Rattle.sqlite.specs.Held.{Held, state}
use Rattle.fuse_data.specs.declared.data_file.DataFile.{DataFile}
use Rattle.fuse_store_tree.specs.StoreState.{IsHonest, IsUsable, store_in}
use Rattle.fuse_store.specs.TableKeeper.{LiesInMemory}

-- what lies in memory returns what was written, and can be used
pub clean_in_memory : {S D : Type 0} (g : Ghosts S) (h : disk.Ghosts D) → LiesInMemory g h → (conn : Held S) (file : Option (DataFile D))
    → IsHonest (store_in g h conn file) × IsUsable (store_in g h conn file)
clean_in_memory g h memory conn file =
    (((memory.tables conn).0, (memory.contents file).0), ((memory.tables conn).1, (memory.contents file).1))
