-- The end of a keeper over files.
use Rattle.std.proofs.Common.{◌≡◌, Bool, ℕ, List, [], IsTrue, Option, Some, None, option_map, Result, Ok, Err, IfOk, IfErr, refl, subst}
use Rattle.sqlite_disk.specs.declared.Disk.{Ghosts}
use Rattle.sqlite_disk.specs.declared.Files.{Files}
use Rattle.sqlite_wal.proofs.LogLemmas.{SeenMayStay}
use Rattle.sqlite_pool.proofs.StateLemmas.{clean_if_left}
use Rattle.sqlite_trees.proofs.Doubt.{no_doubt}
use Rattle.sqlite_trees.specs.View.{IsClean}
use Rattle.sqlite_catalog.specs.Listing.{IsSound}
use Rattle.sqlite.specs.Tree.{Trees}
use Rattle.sqlite.specs.State.{State, HasCleanDisk}
use Rattle.sqlite.specs.Held.{Held, AreDatabases}
use Rattle.sqlite.specs.Files.{file_state, over_files}
use Rattle.sqlite_store.specs.declared.store.FileStore.{FileStore}
use Rattle.sqlite_store.specs.FileStore.{view}
use Rattle.fuse_init.specs.declared.profile.Profile.{Profile}
use Rattle.fuse_store.specs.Opening.Stored.{Second}
use Rattle.fuse_init.specs.declared.profile.Profile.TheVariants.{Plain, Everyday}
use Rattle.fuse_store.specs.TableState.{table_told}
use Rattle.fuse_data.specs.declared.data_file.DataFile.{DataFile}
use Rattle.fuse_data.specs.State.{DataState, state_in}
use Rattle.fuse_store_tree.specs.declared.meta.Meta.{Meta}
use Rattle.fuse_store.specs.declared.table_keeper.TableKeeper.{TableKeeper}
use Rattle.fuse_store.specs.TableKeeper.{conn_of, store_at, disk_in}
use Rattle.fuse_store_files.specs.Files.{TreesTell}
use Rattle.fuse_store_files.specs.Left.{own_store, own_data, disk_of, lies_beside, TellsOf, LeavesWhole, LeavesOf, Beside, Closes}
use Rattle.fuse_store_files.specs.inner.Connections.{EndsAsStore, IsClosedAs, IsCopiedTo, IsUncopied}
use Rattle.fuse_store_files.proofs.Finding.{holds_more}
use Rattle.fuse_store_files.proofs.Plain.{plain_left, stored_is_sound}

-- what a crash leaves of the data file lies beside the store; a plain store is the same beside anything
tells : (p : Profile) (memory : Type 0) (m : Option Meta) (s : DataState) (t : State) (lot : Option ℕ) (failed : Bool) → s.may_leave s.seen
    → (table_told p memory m (record { tables = t; contents = s }) lot failed).leaves_whole → HasCleanDisk t → IsTrue s.is_clean
    → (file : List ℕ) → lies_beside p s file → (db : Trees) → t.may_leave db
    → TreesTell (table_told p memory m (record { tables = t; contents = s }) lot failed).may_leave file db
tells Plain memory m s t lot failed stays whole clean good file over db may =
    let some = whole (clean, good) db may s.seen stays in
    record {
      store = Second some.holding;
      left = plain_left s.seen file (Second some.holding) db some.profile some.left;
      so = record {
        clean = (clean, good);
        trees = db;
        may = may;
        file = s.seen;
        may_file = stays;
        these = record { some = some; is_of = record { rows_are = refl; records_are = λ i. refl } };
      };
    }
tells Everyday memory m s t lot failed stays whole clean good file over db may =
    let some = whole (clean, good) db may file over in
    record {
      store = Second some.holding;
      left = some.left;
      so = record {
        clean = (clean, good);
        trees = db;
        may = may;
        file = file;
        may_file = over;
        these = record { some = some; is_of = record { rows_are = refl; records_are = λ i. refl } };
      };
    }

-- what is read of a data file is one of the contents that a crash may leave
pub seen_stays : {E : Type 0} (h : Ghosts E) → SeenMayStay h → (file : Option (DataFile E)) → (state_in h file).may_leave (state_in h file).seen
seen_stays h stays None = refl
seen_stays h stays (Some file) = stays file.disk

module _ {P D E : Type 0} {g : Ghosts D} (h : Ghosts E) (stays : SeenMayStay h) (p : Profile) (keeper : TableKeeper P (FileStore D g) E) where
  abbrev conn : Held (FileStore D g)
  conn = conn_of over_files h keeper

  more : LeavesWhole h p keeper → HasCleanDisk (file_state conn) → (file : List ℕ) → lies_beside p (own_data h keeper) file
      → (db : Trees) → (file_state conn).may_leave db → TellsOf h p keeper file db
  more whole clean = tells p ⊥ keeper.look.known (store_at over_files h keeper).contents (file_state conn) keeper.lot.number keeper.failed (seen_stays h stays keeper.look.contents.file) whole.0 clean whole.1

  -- so they are databases
  databases : LeavesWhole h p keeper → HasCleanDisk (file_state conn) → (file : List ℕ) → lies_beside p (own_data h keeper) file → AreDatabases (file_state conn).may_leave
  databases whole clean file over db may =
      let left = (more whole clean file over db may).left in
      let d = left.0 in
      (d.schema, subst (λ (t : Trees). IsSound d.schema t) left.2 (stored_is_sound file _ d left.1))

  before : (ends : EndsAsStore conn) → LeavesWhole h p keeper → IsClean (view ends.ended)
      → Beside (lies_beside p (own_data h keeper)) (λ file. LeavesOf (TellsOf h p keeper file) (own_store keeper))
  before ends whole clean file over image may =
      let honest = ends.honest clean in
      holds_more _ _ image (more whole honest file over) (ends.before clean (databases whole honest file over) image may)

  at_end : (ends : EndsAsStore conn) → LeavesWhole h p keeper
      → Beside (lies_beside p (own_data h keeper)) (λ file. LeavesOf (TellsOf h p keeper file) ends.ended)
  at_end ends whole file over image may =
      holds_more _ _ image (more whole (ends.honest (no_doubt _ (clean_if_left ends.ended.pool image may))) file over) (ends.leaves image may)

  -- the disk that is given back is that of the keeper's data file
  same_leaves : (q : Profile) (file : Option (DataFile E)) (c : List ℕ) → lies_beside q (disk_in h (option_map (λ f. f.disk) file)) c
      → lies_beside q (state_in h file) c
  same_leaves Plain file c may = tt
  same_leaves Everyday None c may = may
  same_leaves Everyday (Some file) c may = may

  same_clean : (file : Option (DataFile E)) → IsTrue (disk_in h (option_map (λ f. f.disk) file)).is_clean → IsTrue (state_in h file).is_clean
  same_clean None clean = clean
  same_clean (Some file) clean = clean

  pub closes : EndsAsStore conn → (left : Result (Files D) (FileStore D g)) → IfOk left (IsClosedAs conn) → IfErr left (IsUncopied conn) → IfOk left (IsCopiedTo conn)
      → (disk : Option E) → disk ≡ disk_of keeper → Closes h p keeper left disk
  closes ends (Ok files) closed uncopied copied disk is = record {
    ended = ends.ended;
    its_own = ends.its_own;
    before = before ends;
    at_end = at_end ends;
    closed = λ whole file over clean image may. holds_more _ _ image (more whole (closed.honest clean) file over) (closed.leaves clean image may);
    unclosed = λ whole file over. tt;
    uncopied = λ whole file over. tt;
    leaves_before = ends.before;
    leaves = ends.leaves;
    leaves_closed = closed.leaves;
    leaves_unclosed = tt;
    leaves_uncopied = tt;
    copied = copied;
    honest_end = λ clean good. (ends.honest clean, good);
    honest_closed = λ clean good. (closed.honest clean, good);
    honest_unclosed = tt;
    disk_leaves = λ c may. same_leaves p keeper.look.contents.file c (subst (λ d. lies_beside p (disk_in h d) c) is may);
    disk_clean = λ clean. same_clean keeper.look.contents.file (subst (λ d. IsTrue (disk_in h d).is_clean) is clean);
  }
  closes ends (Err it) closed uncopied copied disk is = record {
    ended = ends.ended;
    its_own = ends.its_own;
    before = before ends;
    at_end = at_end ends;
    closed = λ whole file over. tt;
    unclosed = λ whole file over db found.
        let may = uncopied.leaves db found in
        more whole (uncopied.honest (no_doubt _ (clean_if_left it.pool found.0 found.2))) file over db may;
    uncopied = λ whole file over numbered image may.
        holds_more _ _ image (more whole (uncopied.honest (no_doubt _ (clean_if_left it.pool image may))) file over) (uncopied.holds numbered image may);
    leaves_before = ends.before;
    leaves = ends.leaves;
    leaves_closed = tt;
    leaves_unclosed = uncopied.leaves;
    leaves_uncopied = uncopied.holds;
    copied = tt;
    honest_end = λ clean good. (ends.honest clean, good);
    honest_closed = tt;
    honest_unclosed = λ clean good. (uncopied.honest clean, good);
    disk_leaves = λ c may. same_leaves p keeper.look.contents.file c (subst (λ d. lies_beside p (disk_in h d) c) is may);
    disk_clean = λ clean. same_clean keeper.look.contents.file (subst (λ d. IsTrue (disk_in h d).is_clean) is clean);
  }
