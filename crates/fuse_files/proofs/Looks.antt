-- What is shown of a store that a look sees.
use Rattle.std.proofs.Common.{◌≡◌, ◌∙◌, ap, Option, Some, None, Result, Ok, Err, true, [], option_map, IsTrue, refl, sym, subst}
use Rattle.std.specs.Prelude.{List, ℕ, OnErr, IfOk, IfErr, IsErrAnd, IfSome}
use Rattle.sqlite_trees.specs.declared.store.Store.{Ghosts}
use Rattle.sqlite.specs.State.{State, HasCleanDisk}
use Rattle.fuse_keeper.specs.Stands.{Records}
use Rattle.fuse_keeper.specs.declared.fault.StoreFault.{StoreFault}
use Rattle.fuse_tree.specs.Rowed.{IsRowed}
use Rattle.fuse_store_tables.specs.Faults.{IsOutside, IsPlain}
use Rattle.fuse_store_tables.specs.Moves.{IsReady}
use Rattle.fuse_store_tree.specs.Looking.{as_look_fault, sees_with, WentWell, MayFail}
use Rattle.fuse_store_tree.specs.declared.store_data.Written.{Written}
use Rattle.fuse_store_tree.specs.declared.look.LastNode.{LastNode}
use Rattle.fuse_store_tree.specs.declared.meta.Meta.{Meta}
use Rattle.fuse_store.specs.TableState.{HoldsIn}
use Rattle.fuse_show.specs.declared.fault.ShowFault.{ShowFault}
use Rattle.fuse_show.specs.Looks as looks
use Rattle.fuse_commands.specs.declared.ending.Ending.{Ending}
use Rattle.fuse_commands.specs.Endings.{store_ending}
use Rattle.sqlite.specs.Effect.{Database}
use Rattle.sqlite.specs.Held.{state}
use Rattle.sqlite_disk.specs.declared.Disk.{Ghosts as DiskGhosts}
use Rattle.fuse_init.specs.declared.profile.Profile.{Profile}
use Rattle.fuse_init.specs.declared.profile.Profile.TheVariants as profiles
use Rattle.fuse_data.specs.State.{DataState, state_in}
use Rattle.fuse_data.specs.declared.data_file.DataFile.{DataFile}
use Rattle.fuse_rows.specs.Rows.{Rows}
use Rattle.fuse_store_tree.specs.Holding.{Holding, HeldFor, store_of}
use Rattle.fuse_store_tree.specs.Knowing.{KnownTables, Knows, Recalls}
use Rattle.fuse_store_tree.specs.Leaving.{HeldIsShown}
use Rattle.fuse_store_tree.specs.StoreState.{StoreState}
use Rattle.fuse_store_tree.specs.Viewing.{shown as view}
use Rattle.fuse_store.specs.Opening.{Stored, WasFor, FailsToOpen}
use Rattle.fuse_store.specs.TableState.{data_for}
use Rattle.fuse_store.specs.TableKeeper.{disk_in, parts_state}
use Rattle.fuse_store.specs.StoreKeeper.{own_conn, own_file, store_told}
use Rattle.fuse_store.specs.declared.parts.StoreParts.{StoreParts}
use Rattle.fuse_store.specs.declared.store_keeper.StoreKeeper.{StoreKeeper}
use Rattle.fuse_store.specs.declared.store_keeper.StoreKeeper.TheVariants.{Plain, Everyday}
use Rattle.fuse_tree.specs.State.{profile_of}
use Rattle.fuse_store.specs.Opening.{opened_for}
use Rattle.fuse_commands.specs.declared.ending.Ending.TheVariants as ending
use Rattle.fuse_files.specs.StoreShown.{rows_in, EndsAsShown, SaysNothing, SaysSo, IsRefused}
use Rattle.fuse_files.specs.inner.Showing.{IsAlwaysClean, Fails, Sees, LooksAt, ShowsOver, showing_ending, shown_ending}
use Rattle.fuse_files.proofs.Ends.{says_nothing, says_so, shown_so, shown_silent, ends}

-- ---- what a look sees

sees_rows : {p : Profile} {m : Option Meta} → HeldIsShown → (s : StoreState) (new : State) (rows : Rows) (records : Records) → HoldsIn p m s rows records
    → IsTrue new.is_open × (new.in_transaction ≡ true) × (new.now ≡ s.tables.now) → Sees rows (view s.contents.gaps [] s.contents.seen) new
sees_rows law s new rows records held begun = record {
  holding = held.holding;
  inside = record {
    is_open = begun.0;
    in_transaction = begun.1;
    holds = subst (HeldFor (view s.contents.gaps [] s.contents.seen) held.holding) (sym begun.2)
        (law s.contents.gaps s.contents.seen held.holding s.tables.now held.rests.in_use held.rests.rests.holds.0);
  };
  same = sym held.is_of.rows_are;
}

module _ {S D : Type 0} (g : Ghosts S) (h : DiskGhosts D) where
  pub sees_kept : HeldIsShown → (k : StoreKeeper S D) (new : State) (rows : Rows) (records : Records) → (store_told g h k).holds rows records
      → IsTrue new.is_open × (new.in_transaction ≡ true) × (new.now ≡ (state g (own_conn k)).now)
      → Sees rows (view (state_in h (own_file k)).gaps [] (state_in h (own_file k)).seen) new
  sees_kept law (Plain k) new rows records held begun = sees_rows law _ new rows records held begun
  sees_kept law (Everyday k) new rows records held begun = sees_rows law _ new rows records held begun

  -- it is honest where the data file is
  pub honest_kept : (k : StoreKeeper S D) → HasCleanDisk (state g (own_conn k)) → IsTrue (state_in h (own_file k)).is_clean → (store_told g h k).is_honest
  honest_kept (Plain k) clean good = (clean, good)
  honest_kept (Everyday k) clean good = (clean, good)

-- the disk of a data file is clean where that is
pub clean_disk : {D : Type 0} (h : DiskGhosts D) (file : Option (DataFile D)) → IsTrue (disk_in h (option_map (λ f. f.disk) file)).is_clean → IsTrue (state_in h file).is_clean
clean_disk h None clean = refl
clean_disk h (Some file) clean = clean

pub view_same : {D : Type 0} (h : DiskGhosts D) (rows : Rows) (new : State) (old file : Option (DataFile D)) (none written : List Written) → file ≡ old → written ≡ none
    → Sees rows (view (state_in h old).gaps none (state_in h old).seen) new → Sees rows (view (state_in h file).gaps written (state_in h file).seen) new
view_same h rows new old file none written is empty sees =
    subst (λ f. Sees rows (view (state_in h f).gaps written (state_in h f).seen) new) (sym is)
    (subst (λ w. Sees rows (view (state_in h old).gaps w (state_in h old).seen) new) (sym empty) sees)

module _ (rows : Rows) (file : List ℕ) (s : State) (sees : Sees rows file s) where
  -- by a look that knows nothing yet
  pub seen : (known : Option Meta) (last : Option LastNode) → known ≡ None → last ≡ None → sees_with file known last s rows
  seen known last none fresh = (
    (
      (
        store_of sees.holding,
        record { is_open = sees.inside.is_open; in_transaction = sees.inside.in_transaction; holds = sees.inside.holds.held },
        sees.same,
      ),
      subst (λ m. Knows m rows) (sym none) tt,
    ),
    subst (λ l. Recalls l rows) (sym fresh) (λ rowed. tt),
  )

  pub of_tree : IsRowed rows
  unfolding IsRowed
  of_tree = (sees.holding.tree, sees.inside.holds.tree, sym sees.same)

  pub ready : IsReady (HeldFor file) s
  ready = (sees.holding, sees.inside)

-- ---- its faults

-- where it had none, one that it has later is plain
pub plain_after : (a b : KnownTables) (was is : Option StoreFault) → as_look_fault was ≡ None → MayFail a b was is → IfSome is IsPlain
plain_after a b None is none may = may.plain refl
plain_after a b (Some f) is none may = absurd (cc)

-- and says nothing of a store that it saw
pub sure_after : (a b : KnownTables) (was is : Option StoreFault) → as_look_fault was ≡ None → HasCleanDisk b.tables → IsTrue b.file.is_clean
    → IsReady (HeldFor a.file.bytes) a.tables → MayFail a b was is → IfSome is IsOutside
sure_after a b None is none clean good on may = may.sure refl clean good (subst (λ f. IsReady (HeldFor f) a.tables) (sym may.file.same) on)
sure_after a b (Some f) is none clean good on may = absurd (cc)

plain : (shown : Result (Unit {0}) ShowFault) (a b : KnownTables) (was is : Option StoreFault) → as_look_fault was ≡ None → OnErr shown (MayFail a b was is)
    → OnErr shown (IfSome is IsPlain)
plain (Ok done) a b was is none may = tt
plain (Err f) a b was is none may = plain_after a b was is none may

outside : (shown : Result (Unit {0}) ShowFault) (a b : KnownTables) (was is : Option StoreFault) → as_look_fault was ≡ None → HasCleanDisk b.tables
    → IsTrue b.file.is_clean → IsReady (HeldFor a.file.bytes) a.tables → OnErr shown (MayFail a b was is) → OnErr shown (IfSome is IsOutside)
outside (Ok done) a b was is none clean good on may = tt
outside (Err f) a b was is none clean good on may = sure_after a b was is none clean good on may

-- a look that may have failed returned what was written no longer than before
pub clean_before : (shown : Result (Unit {0}) ShowFault) (a b : KnownTables) (was is : Option StoreFault) (first last : Option LastNode)
    → (looks.look_fault_in shown ≡ None → WentWell a b was is first last) → OnErr shown (MayFail a b was is) → IsTrue b.file.is_clean → IsTrue a.file.is_clean
clean_before (Ok done) a b was is first last well may clean = (well refl).file.clean clean
clean_before (Err f) a b was is first last well may clean = may.file.clean clean

-- ---- what was shown over it

-- a database that was not opened
pub not_shown : (P : Stored → Type 0) (s : StoreState) (e : Ending) → Fails s e → ((z : Stored) → WasFor z s → P z) → ShowsOver P s e
not_shown P s e fails stopped = record { shown = stopped; says = fails.says }

module _ (a b : KnownTables) (was is : Option StoreFault) (shown : Result (Unit {0}) ShowFault) (none : as_look_fault was ≡ None)
    (may : OnErr shown (MayFail a b was is)) (e : Ending) (ended : e ≡ shown_ending (showing_ending is) shown) where
  pub hushed : (old new : Option (List ℕ)) → IfErr shown (λ f. looks.is_of_path f ≡ true → new ≡ old) → IsRefused e → new ≡ old
  hushed old new silent refused = shown_silent is shown old new (plain shown a b was is none may) silent (subst IsRefused ended refused)

  module _ (s : StoreState) (at : LooksAt rows_in s a.file.bytes a.tables) (clean : HasCleanDisk b.tables) (good : IsTrue b.file.is_clean)
      (same : as_look_fault is ≡ looks.look_fault_in shown) where
    pub ends_as : (z : Stored) → WasFor z s → EndsAsShown shown e
    ends_as z held =
        subst (EndsAsShown shown) (sym ended)
        (ends is shown same (outside shown a b was is none clean good (ready (rows_in z) a.file.bytes a.tables (at.sees z held)) may))

    pub over : (P : Stored → Type 0) → ((z : Stored) → WasFor z s → P z) → ShowsOver P s e
    over P so =
        subst (ShowsOver P s) (sym ended) (record { shown = so; says = shown_so s.tables.now at.tabled is shown (plain shown a b was is none may) })

-- ---- a store that is not opened

clean_for : (p : Profile) (c : DataState) → IsTrue c.is_clean → IsTrue (data_for p c).is_clean
clean_for profiles.Plain c clean = refl
clean_for profiles.Everyday c clean = clean

refused : {made : Stored → Holding} {Changes : Database → Type 0} (s left : StoreState) (f : StoreFault) (e : Ending) → e ≡ store_ending f
    → FailsToOpen made Changes None s left f → HasCleanDisk left.tables → IsTrue left.contents.is_clean → Fails s e
refused s left f e same refusal clean good =
    subst (Fails s) (sym same) (record {
      outside = λ z was. says_nothing f (refusal.outside z (clean, clean_for (profile_of (opened_for z).tree) left.contents good) was tt);
      says = says_so s.tables.now f (refusal.says clean);
    })

pub refused_in : {S D X : Type 0} (made : Stored → Holding) (Changes : Database → Type 0) (g : Ghosts S) (h : DiskGhosts D) (s : StoreState)
    (r : Result X (StoreFault × StoreParts S D)) (f : StoreFault) (disk : Option D) (e : Ending)
    → IfErr r (λ p. FailsToOpen made Changes None s (parts_state g h p.1) p.0) → IsErrAnd r (λ p. (p.0 ≡ f) × (p.1.disk ≡ disk)) → e ≡ store_ending f
    → IsAlwaysClean g → IsTrue (disk_in h disk).is_clean → Fails s e
refused_in made Changes g h s (Ok x) f disk e refusal is same clean good = absurd is
refused_in made Changes g h s (Err p) f disk e refusal is same clean good =
    refused s (parts_state g h p.1) p.0 e (same ∙ ap store_ending (sym is.0)) refusal (clean p.1.conn)
    (subst (λ d. IsTrue (disk_in h d).is_clean) (sym is.1) good)

-- an ending that says nothing of a store is no lie
pub nothing_so : (d : Database) (e : Ending) → SaysNothing e → SaysSo d e
nothing_so d ending.Memory so = tt
nothing_so d (ending.Sql _) so = tt
nothing_so d _ so = absurd so

pub quiet_fails : (s : StoreState) (e : Ending) → SaysNothing e → Fails s e
quiet_fails s e so = record { outside = λ z was. so; says = nothing_so s.tables.now e so }

-- two claims of one result
pub ok_of_2 : {X E : Type 0} (r : Result X E) (A B Z : X → Type 0) → ((x : X) → A x → B x → Z x) → IfOk r A → IfOk r B → IfOk r Z
ok_of_2 (Ok x) A B Z f a b = f x a b
ok_of_2 (Err e) A B Z f a b = tt

-- ---- over memory

-- memory always returns what was written
pub good_memory : {D : Type 0} (h : DiskGhosts D) → ((m : D) → h.is_clean m ≡ true) → (d : Option D) → IsTrue (disk_in h d).is_clean
good_memory h sure None = refl
good_memory h sure (Some m) = sure m
