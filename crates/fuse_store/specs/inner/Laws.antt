-- The laws of the `impl` of `Keeper` (defined by this project). The proofs are here because an `impl` takes them from definitions alone.
use Rattle.std.proofs.Common.{◌≡◌, ℕ, Option, sym, ap, ◌∙◌}
use Rattle.fuse_rows.specs.Rows.{Rows}
use Rattle.fuse_tree.specs.Rowed.{rowed}
use Rattle.fuse_init.specs.declared.profile.Profile.{Profile}
use Rattle.fuse_keeper.specs.Stands.{Records}
use Rattle.fuse_store_tree.specs.Store.{records_of}
use Rattle.sqlite_trees.specs.declared.store.Store.{Ghosts}
use Rattle.sqlite_disk.specs.declared.Disk.{Ghosts as DiskGhosts}
use Rattle.fuse_store_tree.specs.StoreState.{StoreState, IsHonest, IsUsable}
use Rattle.fuse_store.specs.declared.table_keeper.TableKeeper.{TableKeeper}
use Rattle.fuse_store.specs.TableKeeper.{LiesInMemory, store_at}
use Rattle.fuse_store_tree.specs.declared.meta.Meta.{Meta}
use Rattle.fuse_store.specs.TableState.{HoldsIn}

-- it holds only one thing
pub one_held : {r : Profile} → (m : Option Meta) (s : StoreState) (x y : Rows) (p q : Records) → HoldsIn r m s x p → HoldsIn r m s y q → (x ≡ y) × ((i : ℕ) → p i ≡ q i)
one_held m s x y p q a b =
    let same = a.alone b.holding b.rests.rests.holds.0 in (
      a.is_of.rows_are ∙ ap (λ z. rowed z.tree) (sym same) ∙ sym b.is_of.rows_are,
      λ i. a.is_of.records_are i ∙ ap (λ z. records_of z.kept i) (sym same) ∙ sym (b.is_of.records_are i),
    )

-- what lies in memory alone is clean
pub memory_clean : {P S D : Type 0} (g : Ghosts S) (h : DiskGhosts D) (k : TableKeeper P S D) → LiesInMemory g h
    → IsHonest (store_at g h k) × IsUsable (store_at g h k)
memory_clean g h k memory =
    let conn = memory.tables k.look.conn in
    let file = memory.contents k.look.contents.file in
    ((conn.0, file.0), (conn.1, file.1))
