-- The lots of a store outlive the closing of its files.
use Rattle.std.proofs.Common.{◌≡◌, ◌∙◌, ℕ, List, sym, ap, subst, inl, inr}
use Rattle.std.specs.Prelude.{Option, Result, Ok, Err, IfOk, IfErr, IsTrue}
use Rattle.sqlite_disk.specs.declared.Disk.{Ghosts}
use Rattle.sqlite_disk.specs.declared.Files.{Files}
use Rattle.sqlite_wal.proofs.LogLemmas.{SeenMayStay}
use Rattle.sqlite_wal.specs.Recovery.{Image}
use Rattle.sqlite_trees.specs.Tree.{Trees}
use Rattle.sqlite_store.specs.declared.store.FileStore.{FileStore}
use Rattle.sqlite_store.specs.FileStore.{view}
use Rattle.sqlite_store.specs.Laws.{settled_at}
use Rattle.sqlite.specs.Effect.{Database, IsDatabase}
use Rattle.sqlite.specs.Held.{AreDatabases}
use Rattle.sqlite.specs.Files.{file_state, over_files}
use Rattle.fuse_rows.specs.Rows.{Rows}
use Rattle.fuse_init.specs.declared.profile.Profile.{Profile}
use Rattle.fuse_init.specs.declared.profile.Profile.TheVariants.{Plain, Everyday}
use Rattle.fuse_keeper.specs.Stands.{Records}
use Rattle.fuse_keeper.specs.Lots.{AreReopened}
use Rattle.fuse_tree.specs.State.{profile_of}
use Rattle.fuse_store_tree.specs.Lots.{LotsAreSame}
use Rattle.fuse_store_tree.specs.Holding.{Holding, HeldFor}
use Rattle.fuse_store_tree.specs.StoreState.{StoreState, IsAtRest}
use Rattle.fuse_store_tree.specs.declared.meta.Meta.{Meta}
use Rattle.fuse_store.specs.Opening.{Stored, opened_for}
use Rattle.fuse_store.specs.Opening.Stored.{Second}
use Rattle.fuse_store.specs.declared.table_keeper.TableKeeper.{TableKeeper}
use Rattle.fuse_store.specs.TableKeeper.{conn_of, store_at, keeper_told}
use Rattle.fuse_store_files.specs.Files.{StoreImage, HoldSome, FilesHold, PlainOverAny}
use Rattle.fuse_store_files.specs.Left.{Closes, LeavesOf, LeavesClosed, lies_beside}
use Rattle.fuse_store_files.specs.Starting.{KeepsHolding}
use Rattle.fuse_files.specs.StoreLives.{MayBeLeft, LeftClosed}

-- a crash of what was closed leaves one of these
pub closed_some : {D : Type 0} {g : Ghosts D} (P : Trees → Type 0) (left : Result (Files D) (FileStore D g)) (image : Image) → IfOk left (LeavesClosed g P)
    → IfErr left (λ it. IsTrue (view it).is_numbered → LeavesOf P it) → LeftClosed left image → HoldSome P image
closed_some P (Ok files) image closed uncopied may = closed may.0 image may.1
closed_some P (Err it) image closed uncopied may = uncopied may.0 image may.1

-- what lies beside a store at rest is what it has of its data file: a plain one is the same over any
beside_rest : PlainOverAny → (p : Profile) (m : Option Meta) (y : Holding) (s : StoreState) (file : List ℕ) → profile_of y.tree ≡ p → IsAtRest m y s
    → lies_beside p s.contents file → HeldFor file y s.tables.now
beside_rest plain Plain m y s file is at over = plain s.contents.seen file (Second y) s.tables.now is at.rests.holds.0
beside_rest plain Everyday m y s file is at over = subst (λ f. HeldFor f y s.tables.now) (sym (at.synced file over)) at.rests.holds.0

module _ {P D E : Type 0} {g : Ghosts D} {h : Ghosts E} (p : Profile) (k k' : TableKeeper P (FileStore D g) E)
    (left : Result (Files D) (FileStore D g)) (disk : Option E) (closed : Closes h p k left disk) (stays : SeenMayStay g) (plain : PlainOverAny) where
  pub lots_kept : LotsAreSame → (it : StoreImage) → MayBeLeft closed it → ((z : Stored) → FilesHold it z → KeepsHolding p (opened_for z) (keeper_told p over_files h k'))
      → (rows : Rows) (records : Records) → (keeper_told p over_files h k).holds rows records
      → AreReopened (keeper_told p over_files h k).lots (keeper_told p over_files h k').lots
  lots_kept told it (may, clean, beside) keeps rows records at =
      let s = file_state (conn_of over_files h k) in
      let y = at.holding in
      let same : (db : Trees) → s.may_leave db → s.committed.trees ≡ db = λ db m. sym (settled_at (conn_of over_files h k).store stays db at.rests.rests.is_open m) in
      let databases : AreDatabases s.may_leave = λ db m.
      (s.now.schema, subst (λ (t : Trees). let d : Database = record { schema = s.now.schema; trees = t } in IsDatabase d) (ap (λ d. d.trees) (sym at.rests.rests.committed) ∙ same db m) at.rests.rests.holds.0.held.1.sound) in
      let some : HoldSome s.may_leave it.tables = elim may [
        | inl own ↦ closed.leaves_before own.0 databases it.tables own.1
        | inr later ↦ elim later [
          | inl ended ↦ closed.leaves it.tables ended
          | inr rest ↦ closed_some s.may_leave left it.tables closed.leaves_closed closed.leaves_uncopied rest
        ]
      ] in
      let over = beside_rest plain p k.look.known y (store_at over_files h k) it.contents at.profile at.rests (closed.disk_leaves it.contents beside) in
      let held : FilesHold it (Second y) = record {
        trees = some.trees;
        held = some.held;
        so = (s.now, over, ap (λ d. d.trees) (sym at.rests.rests.committed) ∙ same some.trees some.so);
      } in
      let new = (keeps (Second y) held).lots in
      let old = told k.lot.number _ y s.now at.rests.rests.holds.0 in
      record { numbers = new.numbers ∙ sym old.numbers; current = new.current; under = λ i. new.under i ∙ sym (old.under i) }
