-- The free space of the data file, found anew: what is held stays at rest.
use Rattle.std.proofs.Common.{◌≡◌, ℕ, List, [], Option, Result, Ok, Err, IfErr, OnOk, inl, inr, refl, sym, ap, subst, ◌∙◌}
use Rattle.std.specs.Prelude.{IsTrue}
use Rattle.std.proofs.lemmas.List.Sorted.{All-permutation, IsPermutation-sym}
use Rattle.sqlite.specs.Tree.{Trees}
use Rattle.sqlite.specs.Effect.{Database}
use Rattle.sqlite.specs.State.{State, HasCleanDisk}
use Rattle.sqlite_disk.specs.Disk.{Follows, Only}
use Rattle.sqlite_disk.specs.declared.Disk.{Ghosts}
use Rattle.fuse_data.specs.declared.extent.Extent.{Extent}
use Rattle.fuse_data.specs.declared.gaps.Gap.{Gap}
use Rattle.fuse_data.specs.declared.data_file.DataFile.{DataFile}
use Rattle.fuse_data.specs.Leaving.{KeepsInUse}
use Rattle.fuse_data.specs.Space.{InUse, AllInUse}
use Rattle.fuse_data.specs.State.{DataState, state_of}
use Rattle.fuse_keeper.specs.declared.fault.StoreFault.{StoreFault}
use Rattle.fuse_store_tables.specs.Content.{Content, Holds}
use Rattle.fuse_store_tables.specs.Faults.{IsOutside}
use Rattle.fuse_store_tables.specs.Moves.{RestsAs, Rests, LeavesAlone, StaysOpen, IsSafe}
use Rattle.fuse_store_tables.specs.inner.Following.{earlier}
use Rattle.fuse_store_tables.specs.inner.Performing.{CommitsNothing}
use Rattle.fuse_store_tree.specs.declared.meta.Meta.{Meta}
use Rattle.fuse_store_tree.specs.Fits.{Fits}
use Rattle.fuse_store_tree.specs.Pieces.{extents_of}
use Rattle.fuse_store_tree.specs.Holding.{Holding, HeldFor}
use Rattle.fuse_store_tree.specs.Knowing.{HeldForKnown}
use Rattle.fuse_store_tree.specs.Leaving.{ListsInUse}
use Rattle.fuse_store_tree.specs.StoreState.{StoreState, IsHonest, IsUsable, IsAtRest, LeavesEither, ServesStore, StaysUsable, IsSoundStore}
use Rattle.fuse_store_tree.specs.Listings.{ListsExtents}
use Rattle.fuse_store_tree.specs.inner.Finding.{FindsSpace}
use Rattle.fuse_store_tree.proofs.FreeBlocks.{holds_nothing}
use Rattle.fuse_store_tree.proofs.Resting.{IsSettled}

-- ---- the data file

keeps_all : (gaps : List Gap) (file : List ℕ) → KeepsInUse gaps file file
keeps_all gaps file = record { header = λ store had. had; extents = λ e used whole. record { whole = whole; same = refl } }

pub finds_nothing : {X E : Type 0} (s : DataState) (r : Result X E) → OnOk r (s.is_usable ≡ s.is_usable) → FindsSpace s s r
finds_nothing s r still = record {
  kept = keeps_all s.gaps s.seen;
  crash = λ file may. (file, may, keeps_all s.gaps file);
  clean = refl;
  usable = λ usable. usable;
  still = still;
  synced = λ usable only. only;
}

-- the free space of the first one counts for nothing
same_disk : {D X E : Type 0} (g : Ghosts D) (a b : DataFile D) (t : DataState) (r : Result X E) → b.disk ≡ a.disk → FindsSpace (state_of g b) t r → OnOk r (t.is_usable ≡ g.is_usable a.disk)
    → FindsSpace (state_of g a) t r
same_disk g a b t r same p still = record {
  kept = subst (λ d. KeepsInUse t.gaps (g.seen d) t.seen) same p.kept;
  crash = subst (λ d. Follows (KeepsInUse t.gaps) (g.may_leave d) t.may_leave) same p.crash;
  clean = p.clean ∙ ap (λ d. g.is_clean d) same;
  usable = subst (λ d. IsTrue t.is_usable → IsTrue (g.is_usable d)) same p.usable;
  still = still;
  synced = subst (λ d. IsTrue t.is_usable → Only (g.seen d) (g.may_leave d) → Only t.seen t.may_leave) same p.synced;
}

-- a list that doesn't fit
pub finds_no_room : {D X : Type 0} (g : Ghosts D) (a b : DataFile D) (x : X) → b.disk ≡ a.disk → FindsSpace {E = StoreFault} (state_of g a) (state_of g b) (Ok x)
finds_no_room g a b x same = same_disk g a b (state_of g b) (Ok x) same (finds_nothing (state_of g b) (Ok x) refl) (ap (λ d. g.is_usable d) same)

-- the end was cut, or not, and it was synced
module _ {D : Type 0} (g : Ghosts D) (a b c d : DataFile D) (same : b.disk ≡ a.disk)
    (gaps : (state_of g c).gaps ≡ (state_of g b).gaps) (usable : (state_of g c).is_usable ≡ (state_of g b).is_usable)
    (clean : (state_of g c).is_clean ≡ (state_of g b).is_clean) (kept : KeepsInUse (state_of g b).gaps (state_of g b).seen (state_of g c).seen)
    (crash : Follows (KeepsInUse (state_of g b).gaps) (state_of g b).may_leave (state_of g c).may_leave)
    (gaps_too : (state_of g d).gaps ≡ (state_of g c).gaps) (seen : (state_of g d).seen ≡ (state_of g c).seen)
    (clean_too : (state_of g d).is_clean ≡ (state_of g c).is_clean) (fewer : (file : List ℕ) → (state_of g d).may_leave file → (state_of g c).may_leave file) where
  all_gaps : (state_of g d).gaps ≡ (state_of g b).gaps
  all_gaps = gaps_too ∙ gaps

  by_sync : {X E : Type 0} (r : Result X E) → (IsTrue (state_of g d).is_usable → IsTrue (state_of g b).is_usable) → OnOk r ((state_of g d).is_usable ≡ (state_of g b).is_usable)
      → (IsTrue (state_of g d).is_usable → Only (state_of g d).seen (state_of g d).may_leave) → FindsSpace (state_of g b) (state_of g d) r
  by_sync r was still only = record {
    kept = subst (λ x. KeepsInUse x (state_of g b).seen (state_of g d).seen) (sym all_gaps)
        (subst (λ x. KeepsInUse (state_of g b).gaps (state_of g b).seen x) (sym seen) kept);
    crash = λ file may.
        let (before, could, keeps) = crash file (fewer file may) in
        (before, could, subst (λ x. KeepsInUse x before file) (sym all_gaps) keeps);
    clean = clean_too ∙ clean;
    usable = was;
    still = still;
    synced = λ on before. only on;
  }

  pub finds_synced : {X : Type 0} (x : X) → IsTrue (state_of g c).is_usable → IsTrue (state_of g d).is_usable → Only (state_of g c).seen (state_of g d).may_leave
      → FindsSpace {E = StoreFault} (state_of g a) (state_of g d) (Ok x)
  finds_synced x asked on only =
      let still : (state_of g d).is_usable ≡ (state_of g b).is_usable = on ∙ sym asked ∙ usable in
      same_disk g a b (state_of g d) (Ok x) same
      (by_sync (Ok x) (λ now. subst IsTrue usable asked) still (λ now. subst (λ f. Only f (state_of g d).may_leave) (sym seen) only))
      (still ∙ ap (λ k. g.is_usable k) same)

  pub finds_unsynced : {X : Type 0} (f : StoreFault) → ¬ IsTrue (state_of g d).is_usable → FindsSpace {X = X} (state_of g a) (state_of g d) (Err f)
  finds_unsynced f off = same_disk g a b (state_of g d) (Err f) same (by_sync (Err f) (λ on. absurd (off on)) tt (λ on. absurd (off on))) tt

-- ---- the list

-- what is in use of it is so of each list of the tables
pub lists_used : (gaps : List Gap) (es : List Extent) (s : State) (c : Content) → RestsAs (Holds c) s → Fits c → ListsExtents s es → AllInUse gaps es → ListsInUse gaps s.now
lists_used gaps es s c at fits these used k holds also =
    let now : Rests k s = record { is_open = at.is_open; autocommit = at.autocommit; holds = holds; committed = at.committed } in
    All-permutation (InUse gaps) es (extents_of k.pieces) (IsPermutation-sym (extents_of k.pieces) es (these.exact k now also)) used

pub used_of_lists : (gaps : List Gap) (es : List Extent) (s : State) (c : Content) → RestsAs (Holds c) s → Fits c → ListsExtents s es → ListsInUse gaps s.now → AllInUse gaps es
used_of_lists gaps es s c at fits these used =
    All-permutation (InUse gaps) (extents_of c.pieces) es (these.exact c at fits) (used c at.holds fits)

-- where what is in use of it stays so, no listed block becomes free
pub lists_after : (m : Option Meta) (old : StoreState) (gaps : List Gap) (es us : List Extent) → us ≡ es → ListsExtents old.tables es
    → (AllInUse old.contents.gaps us → AllInUse gaps us) → (y : Holding) → IsAtRest m y old → ListsInUse gaps old.tables.now
lists_after m old gaps es us same these keeps y at =
    let held = at.rests.holds.0.held in
    let c : Content = held.0 in
    let rests : Rests c old.tables = record { is_open = at.rests.is_open; autocommit = at.rests.autocommit; holds = held.1; committed = at.rests.committed } in
    lists_used gaps es old.tables c rests held.2.fits these
    (subst (AllInUse gaps) same (keeps (subst (AllInUse old.contents.gaps) (sym same)
    (used_of_lists old.contents.gaps es old.tables c rests held.2.fits these at.in_use))))

-- ---- the tables

alone_rests : (P : Database → Type 0) (a b : State) → LeavesAlone a b → HasCleanDisk b → IsTrue b.is_open → RestsAs P a → RestsAs P b
alone_rests P a b alone clean is_open at =
    let back = alone.same clean is_open in
    record {
      is_open = is_open;
      autocommit = alone.autocommit clean;
      holds = subst P (sym (back.2 ∙ back.1 ∙ at.committed)) at.holds;
      committed = sym back.2;
    }

-- ---- both

module _ (old new : StoreState) (settled : IsSettled old.tables) (alone : LeavesAlone old.tables new.tables) where
  now_same : (m : Option Meta) (y : Holding) → IsAtRest m y old → HasCleanDisk new.tables → IsTrue new.tables.is_open → new.tables.now ≡ old.tables.now
  now_same m y at clean is_open = let back = alone.same clean is_open in back.2 ∙ back.1 ∙ at.rests.committed

  module _ (m : Option Meta) (lists : HasCleanDisk new.tables → (y : Holding) → IsAtRest m y old → ListsInUse new.contents.gaps old.tables.now) where
    found_rests : KeepsInUse new.contents.gaps old.contents.seen new.contents.seen → (Only old.contents.seen old.contents.may_leave → Only new.contents.seen new.contents.may_leave)
        → HasCleanDisk new.tables → IsTrue new.tables.is_open → IsTrue new.contents.is_usable → (y : Holding) → IsAtRest m y old → IsAtRest m y new
    found_rests kept only clean is_open usable y at =
        let rests = alone_rests (HeldForKnown old.contents.seen m y) old.tables new.tables alone clean is_open at.rests in
        let same = now_same m y at clean is_open in
        let used : ListsInUse new.contents.gaps new.tables.now = subst (λ d. ListsInUse new.contents.gaps d) (sym same) (lists clean y at) in
        record {
          rests = record {
            is_open = rests.is_open;
            autocommit = rests.autocommit;
            holds = (holds_nothing new.contents.gaps old.contents.seen new.contents.seen y new.tables.now kept used rests.holds.0, rests.holds.1);
            committed = rests.committed;
          };
          usable = usable;
          in_use = used;
          synced = only at.synced;
        }

    found_leaves : Follows (KeepsInUse new.contents.gaps) old.contents.may_leave new.contents.may_leave → HasCleanDisk new.tables → (y : Holding) → IsAtRest m y old → (db : Trees)
        → new.tables.may_leave db → (file : List ℕ) → new.contents.may_leave file → LeavesEither (λ z. z) y db file
    found_leaves crash clean y at db may file could = elim (alone.survives.crash clean db may) [
      | inl before ↦
          let (was, could_was, keeps) = crash file could in
          let same : was ≡ old.contents.seen = at.synced was could_was in
          inl (
            old.tables.now,
            holds_nothing new.contents.gaps old.contents.seen file y old.tables.now (subst (λ f. KeepsInUse new.contents.gaps f file) same keeps) (lists clean y at) at.rests.holds.0,
            sym (settled db at.rests.is_open before ∙ ap (λ d. d.trees) at.rests.committed),
          )
      | inr none ↦ absurd none
    ]

    pub found_served : {X : Type 0} (r : Result X StoreFault) → StaysOpen old.tables new.tables r → FindsSpace old.contents new.contents r → ServesStore m m (λ z. z) old new r
    found_served (Ok x) open_still p = record {
      honest = λ (clean, read). (earlier old.tables new.tables _ alone.survives clean, subst IsTrue p.clean read);
      crash = λ (clean, read) y at db may file could. found_leaves p.crash clean y at db may file could;
      kept = tt;
      done = λ (clean, read) y at.
          let usable : IsTrue new.contents.is_usable = subst IsTrue (sym p.still) at.usable in
          found_rests p.kept (p.synced usable) clean (open_still.still clean at.rests.is_open) usable y at;
    }
    found_served (Err f) open_still p = record {
      honest = λ (clean, read). (earlier old.tables new.tables _ alone.survives clean, subst IsTrue p.clean read);
      crash = λ (clean, read) y at db may file could. found_leaves p.crash clean y at db may file could;
      kept = λ (clean, read) (is_open, usable) y at. found_rests p.kept (p.synced usable) clean is_open usable y at;
      done = tt;
    }

pub found_usable : {X : Type 0} (old new : StoreState) (r : Result X StoreFault) → StaysOpen old.tables new.tables r → FindsSpace old.contents new.contents r → StaysUsable old new r
found_usable old new (Ok x) open_still p = record {
  was = λ (clean, read) (is_open, usable). (open_still.was clean is_open, p.usable usable);
  still = λ (clean, read) (is_open, usable). (open_still.still clean is_open, subst IsTrue (sym p.still) usable);
}
found_usable old new (Err f) open_still p = record { was = λ (clean, read) (is_open, usable). (open_still.was clean is_open, p.usable usable); still = tt }

-- a fault of the tables says nothing of a store that was at rest
pub found_sound : (m : Option Meta) (old new : StoreState) (f : StoreFault) → ((file : List ℕ) → IsSafe {X = Unit {0}} (HeldFor file) old.tables new.tables (Err f))
    → IsSoundStore {X = Unit {0}} m old new (Err f)
found_sound m old new f safe (clean, read) = λ y at.
    safe old.contents.seen clean y (record {
      is_open = at.rests.is_open;
      autocommit = at.rests.autocommit;
      holds = at.rests.holds.0;
      committed = at.rests.committed;
    })

pub sound_of : {X : Type 0} (m : Option Meta) (old new : StoreState) (r : Result X StoreFault) → IfErr r IsOutside → IsSoundStore m old new r
sound_of m old new (Ok x) outside honest = tt
sound_of m old new (Err f) outside honest = λ y at. outside

-- nothing was done
pub still_served : {X : Type 0} (m : Option Meta) (s : StoreState) (x : X) → IsSettled s.tables → ServesStore {E = StoreFault} m m (λ z. z) s s (Ok x)
still_served m s x settled = record {
  honest = λ honest. honest;
  crash = λ honest y at db may file could. inl (
    s.tables.now,
    subst (λ f. HeldFor f y s.tables.now) (sym (at.synced file could)) at.rests.holds.0,
    sym (settled db at.rests.is_open may ∙ ap (λ d. d.trees) at.rests.committed),
  );
  kept = tt;
  done = λ honest y at. at;
}

pub still_usable : {X : Type 0} (s : StoreState) (x : X) → StaysUsable {E = StoreFault} s s (Ok x)
still_usable s x = record { was = λ honest usable. usable; still = λ honest usable. usable }

pub still_open : {X : Type 0} (a : State) (x : X) → StaysOpen {E = StoreFault} a a (Ok x)
still_open a x = record { was = λ clean is_open. is_open; still = λ clean is_open. is_open }

-- what leaves the tables alone commits nothing
pub alone_nothing : (a b : State) → LeavesAlone a b → CommitsNothing a b
alone_nothing a b alone = record {
  survives = alone.survives;
  kept = λ clean. record { was_open = λ is_open. (alone.same clean is_open).0; committed = λ is_open. (alone.same clean is_open).1 };
}
