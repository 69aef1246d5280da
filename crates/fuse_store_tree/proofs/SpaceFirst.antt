-- A call of a whole store after one that made nothing, in which the free space was found anew.
use Rattle.std.proofs.Common.{◌≡◌, ℕ, Option, None, Result, Ok, Err, IfOk, IfErr, OnOk, OnErr, inl, inr, ◌∙◌}
use Rattle.sqlite.specs.State.{State, HasCleanDisk}
use Rattle.sqlite.proofs.StateLemmas.{survives_then}
use Rattle.sqlite.proofs.InsideLemmas.{keeps_then}
use Rattle.fuse_keeper.specs.declared.fault.StoreFault.{StoreFault}
use Rattle.fuse_store_tables.specs.Faults.{IsOutside}
use Rattle.fuse_store_tables.specs.Moves.{LeavesAlone, RollsBack, CommitsOnce, StaysOpen}
use Rattle.fuse_store_tables.specs.Saying.{IsRefusal}
use Rattle.fuse_store_tables.specs.inner.Performing.{CommitsNothing}
use Rattle.fuse_store_tables.specs.inner.Following.{earlier}
use Rattle.fuse_store_tree.specs.declared.meta.Meta.{Meta}
use Rattle.fuse_store_tree.specs.Holding.{Holding}
use Rattle.fuse_store_tree.specs.StoreState.{StoreState, ServesStore, StaysUsable, ReportsStore, IsSafeStore, IsSoundStore}

-- ---- what the call after it says of the store

pub first_served : {X Y : Type 0} (m n : Option Meta) (made : Holding → Holding) (a b d : StoreState) (x : X) (r : Result Y StoreFault)
    → ServesStore {E = StoreFault} m m (λ y. y) a b (Ok x) → ServesStore m n made b d r → ServesStore m n made a d r
first_served m n made a b d x (Ok z) p q = record {
  honest = λ honest. p.honest (q.honest honest);
  crash = λ honest y at db may file could. q.crash honest y (p.done (q.honest honest) y at) db may file could;
  kept = tt;
  done = λ honest y at. q.done honest y (p.done (q.honest honest) y at);
}
first_served m n made a b d x (Err f) p q = record {
  honest = λ honest. p.honest (q.honest honest);
  crash = λ honest y at db may file could. q.crash honest y (p.done (q.honest honest) y at) db may file could;
  kept = λ honest usable y at. q.kept honest usable y (p.done (q.honest honest) y at);
  done = tt;
}

pub first_failed : {X Y : Type 0} (m n : Option Meta) (made : Holding → Holding) (a b : StoreState) (f : StoreFault)
    → ServesStore {X = X} m m (λ y. y) a b (Err f) → ServesStore {X = Y} m n made a b (Err f)
first_failed m n made a b f p = record {
  honest = p.honest;
  crash = λ honest y at db may file could. elim (p.crash honest y at db may file could) [ inl before ↦ inl before | inr same ↦ inl same ];
  kept = p.kept;
  done = tt;
}

pub first_usable : {X Y : Type 0} (m n : Option Meta) (made : Holding → Holding) (a b d : StoreState) (x : X) (r : Result Y StoreFault)
    → StaysUsable {E = StoreFault} a b (Ok x) → ServesStore m n made b d r → StaysUsable b d r → StaysUsable a d r
first_usable m n made a b d x (Ok z) p q usable = record {
  was = λ honest on. p.was (q.honest honest) (usable.was honest on);
  still = λ honest on. usable.still honest (p.still (q.honest honest) on);
}
first_usable m n made a b d x (Err f) p q usable = record { was = λ honest on. p.was (q.honest honest) (usable.was honest on); still = tt }

pub failed_usable : {X Y : Type 0} (a b : StoreState) (f : StoreFault) → StaysUsable {X = X} a b (Err f) → StaysUsable {X = Y} a b (Err f)
failed_usable a b f p = record { was = p.was; still = tt }

pub first_told : {X Y : Type 0} (m n : Option Meta) (made : Holding → Holding) (a b d : StoreState) (x : X) (r : Result Y StoreFault) (P : Y → Holding → Type 0)
    → ServesStore {E = StoreFault} m m (λ y. y) a b (Ok x) → ServesStore m n made b d r → IfOk r (λ z. ReportsStore m b d (P z)) → IfOk r (λ z. ReportsStore m a d (P z))
first_told m n made a b d x (Ok z) P p q told = λ honest y at. told honest y (p.done (q.honest honest) y at)
first_told m n made a b d x (Err f) P p q told = tt

pub first_safe : {X Y : Type 0} (m n : Option Meta) (made : Holding → Holding) (lot : Option ℕ) (a b d : StoreState) (x : X) (r : Result Y StoreFault)
    → ServesStore {E = StoreFault} m m (λ y. y) a b (Ok x) → ServesStore m n made b d r → IsSafeStore m lot b d r → IsSafeStore m lot a d r
first_safe m n made lot a b d x (Ok z) p q safe honest = tt
first_safe m n made lot a b d x (Err f) p q safe honest = λ y at left. safe honest y (p.done (q.honest honest) y at) left

pub failed_safe : (m : Option Meta) (lot : Option ℕ) (a b : StoreState) (f : StoreFault) → IsSoundStore {X = Unit {0}} m a b (Err f)
    → IsSafeStore {X = Unit {0}} m lot a b (Err f)
failed_safe m lot a b f sound honest = λ y at left. sound honest y at

-- ---- and of the tables, whatever they are

pub first_alone : (a b d : State) → CommitsNothing a b → LeavesAlone b d → LeavesAlone a d
first_alone a b d p q = record {
  survives = survives_then a b d _ _ _ (λ _ db none. none) (λ _ db none. none) p.survives q.survives;
  autocommit = q.autocommit;
  same = λ clean is_open.
      let (was, committed, now) = q.same clean is_open in
      let kept = p.kept (earlier b d _ q.survives clean) in
      (kept.was_open was, committed ∙ kept.committed was, now);
}

pub first_refused : {X : Type 0} (a b d : State) (r : Result X StoreFault) → CommitsNothing a b → IfErr r (λ f. IsRefusal f → LeavesAlone b d)
    → IfErr r (λ f. IsRefusal f → LeavesAlone a d)
first_refused a b d (Ok x) p q = tt
first_refused a b d (Err f) p q = λ refused. first_alone a b d p (q refused)

pub first_undone : {X : Type 0} (a b d : State) (r : Result X StoreFault) → CommitsNothing a b → CommitsOnce b d r → StaysOpen b d r → OnErr r (RollsBack b d) → OnErr r (RollsBack a d)
first_undone a b d (Ok x) p once stays q = tt
first_undone a b d (Err f) p once stays q = λ clean is_open.
    let back = q clean is_open in
    let same = (p.kept (earlier b d _ once.survives clean)).committed (stays.was clean is_open) in
    (back.0 ∙ same, back.1 ∙ same)

pub first_once : {X : Type 0} (a b d : State) (r : Result X StoreFault) → CommitsNothing a b → CommitsOnce b d r → CommitsOnce a d r
first_once a b d r p q = record {
  trees = q.trees;
  survives = survives_then a b d _ _ _ (λ _ db none. absurd none) (λ _ db is. is) p.survives q.survives;
  made = q.made;
}

pub failed_undone : (a b : State) → LeavesAlone a b → RollsBack a b
failed_undone a b alone clean is_open = let (was, committed, now) = alone.same clean is_open in (now ∙ committed, committed)
