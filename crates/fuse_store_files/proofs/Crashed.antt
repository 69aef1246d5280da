-- A keeper that was opened again over what a crash left of its files.
use Rattle.std.proofs.Common.{◌≡◌, ℕ, Bool, false, IsTrue, Option, Some, None, option_map, refl, sym, ap, subst, ◌∙◌}
use Rattle.std.proofs.Math.Logic.{∥∥₁_elim}
use Rattle.sqlite_disk.specs.declared.Disk.{Ghosts}
use Rattle.sqlite_disk.specs.declared.Files.{Files}
use Rattle.sqlite_wal.proofs.LogLemmas.{SeenMayStay}
use Rattle.sqlite_trees.specs.Props.{Trees-set}
use Rattle.sqlite_store.specs.declared.store.FileStore.{FileStore}
use Rattle.sqlite_store.specs.Laws.{settled_at}
use Rattle.sqlite.specs.State.{HasCleanDisk}
use Rattle.sqlite.specs.Held.{Held}
use Rattle.sqlite.specs.Files.{file_state, IsOpened, Finds, image_of}
use Rattle.fuse_rows.specs.Rows.{Rows}
use Rattle.fuse_tree.specs.Rowed.{rowed}
use Rattle.fuse_keeper.specs.Stands.{Records}
use Rattle.fuse_keeper.specs.KeeperState.{Reopened, IsFirm}
use Rattle.fuse_keeper.specs.Lots.{SameLots}
use Rattle.fuse_store_tables.specs.Content.{LeftAs}
use Rattle.fuse_store_tree.specs.Store.{records_of}
use Rattle.fuse_store_tree.specs.Holding.{Holding, HeldFor, lots_of}
use Rattle.fuse_store_tree.specs.declared.meta.Meta.{Meta}
use Rattle.fuse_store_tree.specs.Lots.{lots_in, LotsAreSame}
use Rattle.fuse_store_tree.specs.StoreState.{StoreState, IsHonest}
use Rattle.fuse_data.specs.declared.data_file.DataFile.{DataFile}
use Rattle.fuse_data.specs.State.{DataState, state_in}
use Rattle.fuse_tree.specs.State.{profile_of}
use Rattle.fuse_store.specs.Opening.{Stored, WasFor, opened_for}
use Rattle.fuse_store.specs.Opening.Stored.{Second}
use Rattle.fuse_store.specs.TableState.{IsOf, HoldsIn, LeavesSome, table_told, data_for}
use Rattle.fuse_store.specs.TableKeeper.{disk_in}
use Rattle.fuse_store.specs.inner.Laws.{one_held}
use Rattle.fuse_init.specs.declared.profile.Profile.{Profile}
use Rattle.fuse_init.specs.declared.profile.Profile.TheVariants.{Plain, Everyday}
use Rattle.fuse_store_files.specs.Files.{HoldSome}
use Rattle.fuse_store_files.specs.Crashing.{CrashRelations, Crashes, DataCrashes, FilesCrash}
use Rattle.fuse_store_files.specs.declared.left.CrashedFiles.{CrashedFiles}
use Rattle.fuse_store_files.proofs.Plain.{own_left}

retold : (p : Profile) (m : Option Meta) (s : StoreState) (y : Holding) (rows : Rows) (records : Records) → HoldsIn p m s (rowed y.tree) (records_of y.kept) → IsOf y rows records
    → HoldsIn p m s rows records
retold p m s y rows records at is = record {
  holding = at.holding;
  rests = at.rests;
  alone = at.alone;
  is_of = record { rows_are = is.rows_are ∙ at.is_of.rows_are; records_are = λ i. is.records_are i ∙ at.is_of.records_are i };
  profile = at.profile;
}

-- what a crash left of a data file is one of the contents that it could leave, and has returned what was written no longer than before
pub record LeftOfData (old new : DataState) : Type 0 where
  pub left : old.may_leave new.seen
  pub clean : IsTrue new.is_clean → IsTrue old.is_clean

pub left_of_data : {E : Type 0} (h : Ghosts E) (crashed : E → E → Type 0) (file : Option (DataFile E)) (new : Option E)
    → DataCrashes h crashed (option_map (λ f. f.disk) file) new → LeftOfData (state_in h file) (disk_in h new)
left_of_data h crashed None new cr = record { left = cr.left; clean = cr.clean }
left_of_data h crashed (Some file) new cr = record { left = cr.left; clean = cr.clean }

-- the files that crashed are those of this connection, and this data file
pub crashed_of : {D E : Type 0} {g : Ghosts D} (h : Ghosts E) (crashed : CrashRelations D E) (a b : Held (FileStore D g)) (x y : Option E)
    (left : CrashedFiles D E) → a ≡ b → x ≡ y → FilesCrash h crashed a x left → FilesCrash h crashed b y left
crashed_of h crashed a b x y left conn disk cr =
    subst (λ d. FilesCrash h crashed b d left) disk (subst (λ c. FilesCrash h crashed c x left) conn cr)

module _ {D : Type 0} {g : Ghosts D} (crashed : D → D → Type 0) (conn again : Held (FileStore D g)) (left : Files D) (cr : Crashes crashed conn left)
    (opened : HasCleanDisk (file_state again) → IsOpened again) (found : HasCleanDisk (file_state again) → Finds left again) where
  -- what was found is what the crash left
  pub found_left : HasCleanDisk (file_state again) → (held : HoldSome (file_state conn).may_leave (image_of g left)) × ((file_state again).committed.trees ≡ held.trees)
  found_left clean =
      let f = found clean in
      let h = cr.holds f.honest in
      (h, ∥∥₁_elim h.held (Trees-set _ _) (λ it. f.holds h.trees it))

  module _ (p : Profile) (old new : DataState) (data_left : LeftOfData old new) where
    abbrev was_state : StoreState
    was_state = record { tables = file_state conn; contents = old }

    abbrev again_state : StoreState
    again_state = record { tables = file_state again; contents = new }

    -- it holds over what was left of the data file what it held over it
    pub was : (clean : HasCleanDisk (file_state again)) (y : Holding) → profile_of y.tree ≡ p → LeftAs (HeldFor new.seen y) (found_left clean).0.trees
        → WasFor (Second y) again_state
    was clean y is held =
        let live = opened clean in
        let at = own_left (Second y) (profile_of y.tree) refl new (found_left clean).0.trees held in
        (live.0.is_open, live.0.autocommit, subst (LeftAs (HeldFor (data_for (profile_of y.tree) new).seen y)) (sym (found_left clean).1) at)

    module _ (stays : SeenMayStay g) (m n : Option Meta) (b : StoreState) (lot taken : Option ℕ) (failed now : Bool)
        (honest : IsHonest b → IsHonest again_state)
        (holds : IsHonest b → (z : Stored) → WasFor z again_state → HoldsIn p n b (rowed (opened_for z).tree) (records_of (opened_for z).kept))
        (lots : IsHonest b → (z : Stored) → WasFor z again_state → SameLots (lots_of None (opened_for z)) (lots_in taken b.tables.now)) where
      back : IsHonest b → IsHonest was_state
      back clean = let is = honest clean in (cr.honest (found is.0).honest, data_left.clean is.1)

      -- while it was open, a crash left nothing of the database but what was committed
      left_same : (clean : IsHonest b) (rows : Rows) (records : Records) (at : HoldsIn p m was_state rows records)
          → LeftAs (HeldFor new.seen at.holding) (found_left (honest clean).0).0.trees
      left_same clean rows records at =
          let h = (found_left (honest clean).0).0 in
          let rests = at.rests.rests in (
            (file_state conn).now,
            subst (λ f. HeldFor f at.holding (file_state conn).now) (sym (at.rests.synced new.seen data_left.left)) rests.holds.0,
            ap (λ d. d.trees) (sym rests.committed) ∙ sym (settled_at conn.store stays h.trees rests.is_open h.so),
          )

      some_left : (clean : IsHonest b) → (table_told p ⊥ m was_state lot failed).leaves_whole → LeavesSome p (found_left (honest clean).0).0.trees new.seen
      some_left clean whole = let h = (found_left (honest clean).0).0 in whole (back clean) h.trees h.so new.seen data_left.left

      pub reopened : {memory : Type 0} → LotsAreSame → (IsHonest b → IsFirm (table_told p ⊥ n b taken now)) → (now ≡ false)
          → Reopened (table_told p memory m was_state lot failed) (table_told p memory n b taken now)
      reopened told firm going = record {
        same = λ clean rows records at.
            let is = was (honest clean).0 at.holding at.profile (left_same clean rows records at) in
            retold p n b at.holding rows records (holds clean (Second at.holding) is) at.is_of;
        held = λ clean whole.
            let some = some_left clean whole in (
              rowed some.holding.tree,
              records_of some.holding.kept,
              holds clean (Second some.holding) (was (honest clean).0 some.holding some.profile some.left),
            );
        left = λ clean whole rows records at.
            let h = (found_left (honest clean).0).0 in
            let some = some_left clean whole in
            let same = one_held n b _ _ _ _ at (holds clean (Second some.holding) (was (honest clean).0 some.holding some.profile some.left)) in
            record {
              clean = back clean;
              trees = h.trees;
              may = h.so;
              file = new.seen;
              may_file = data_left.left;
              these = record { some = some; is_of = record { rows_are = same.0; records_are = same.1 } };
            };
        firm = firm;
        lots = λ clean rows records at.
            let y = at.holding in
            let is = was (honest clean).0 y at.profile (left_same clean rows records at) in
            let later = lots clean (Second y) is in
            let earlier = told lot old.seen y (file_state conn).now at.rests.rests.holds.0 in
            record { numbers = later.numbers ∙ sym earlier.numbers; current = later.current; under = λ i. later.under i ∙ sym (earlier.under i) };
        honest = back;
        medium = λ memory. memory;
        service = refl;
        going = going;
      }
