-- Calls of the tables alone, while the data file stays as it is.
use Rattle.std.proofs.Common.{◌≡◌, ◌⊎◌, ℕ, List, Option, None, Ok, Err, Result, OnOk, OnErr, inl, inr, sym, ap, subst, ◌∙◌, IsTrue, Bool, true}
use Rattle.sqlite.specs.Tree.{Trees}
use Rattle.sqlite.specs.Effect.{Database}
use Rattle.sqlite.specs.State.{State, HasCleanDisk}
use Rattle.fuse_init.specs.declared.profile.Profile.{Profile}
use Rattle.fuse_keeper.specs.KeeperState.{Looked}
use Rattle.fuse_keeper.specs.declared.fault.StoreFault.{StoreFault}
use Rattle.fuse_data.specs.State.{DataState}
use Rattle.fuse_store_tables.specs.Content.{LeftAs}
use Rattle.fuse_store_tables.specs.Faults.{IsOutside}
use Rattle.fuse_store_tables.specs.inner.Following.{earlier}
use Rattle.fuse_store_tables.specs.Moves.{RestsAs, ServesAs, StaysOpen, OnlyReads, RollsBack}
use Rattle.fuse_store_tree.specs.Holding.{Holding, HeldFor}
use Rattle.fuse_store_tree.specs.Leaving.{ListsInUse}
use Rattle.fuse_store_tree.specs.Lots.{LotsAreSame}
use Rattle.fuse_store_tree.specs.declared.meta.Meta.{Meta}
use Rattle.fuse_store_tree.specs.Performing.{OneHolding}
use Rattle.fuse_store_tree.specs.StoreState.{StoreState, IsHonest, IsUsable, IsAtRest, LeavesEither, ServesStore, StaysUsable}
use Rattle.fuse_store.specs.TableState.{table_told}
use Rattle.fuse_store.proofs.Serving.{Settled, LeavesMade, left_now}
use Rattle.fuse_store.proofs.Peeking.{held_rests, may_where, seen_well, seen_wrong}

abbrev pub with_data : State → DataState → StoreState
with_data tables contents = record { tables = tables; contents = contents }

-- what was held is, where the same is seen
rests_still : (m : Option Meta) (y : Holding) (a b : State) (d : DataState) → IsAtRest m y (with_data a d) → RestsAs (HeldFor d.seen y) b → b.now ≡ a.now
    → IsAtRest m y (with_data b d)
rests_still m y a b d at now same = record {
  rests = record { is_open = now.is_open; autocommit = now.autocommit; holds = (now.holds, at.rests.holds.1); committed = now.committed };
  usable = at.usable;
  in_use = subst (ListsInUse d.gaps) (sym same) at.in_use;
  synced = at.synced;
}

pub stays_usable : {X E : Type 0} (a b : State) (d : DataState) (r : Result X E) → StaysOpen a b r → StaysUsable (with_data a d) (with_data b d) r
stays_usable a b d (Ok x) connection =
    record { was = λ clean usable. (connection.was clean.0 usable.0, usable.1); still = λ clean usable. (connection.still clean.0 usable.0, usable.1) }
stays_usable a b d (Err e) connection = record { was = λ clean usable. (connection.was clean.0 usable.0, usable.1); still = tt }

-- ---- a look

module _ (m : Option Meta) (a b : State) (d : DataState) (settled : Settled a) where
  looks_left : {X E : Type 0} (r : Result X E) → OnlyReads a b r → LeavesMade m (λ y. y) (with_data a d) (with_data b d)
  looks_left r reads clean y at db may file may_file = elim (reads.commits.survives.crash clean.0 db may) [
    | inl before ↦ inl (left_now m (with_data a d) y db file settled at before may_file)
    | inr none ↦ absurd none
  ]

  pub looks_serve : {X : Type 0} (r : Result X StoreFault) → ServesAs (HeldFor d.seen) (HeldFor d.seen) a b r → OnlyReads a b r
      → ServesStore m m (λ y. y) (with_data a d) (with_data b d) r
  looks_serve (Ok x) serves reads = record {
    honest = λ clean. (earlier a b _ reads.commits.survives clean.0, clean.1);
    crash = looks_left (Ok x) reads;
    kept = tt;
    done = λ clean y at. rests_still m y a b d at (serves.done clean.0 y (held_rests m y (with_data a d) at)) (reads.same clean.0);
  }
  looks_serve (Err e) serves reads = record {
    honest = λ clean. (earlier a b _ reads.commits.survives clean.0, clean.1);
    crash = looks_left (Err e) reads;
    kept = λ clean usable y at.
        rests_still m y a b d at (serves.kept clean.0 usable.0 y (held_rests m y (with_data a d) at)) (elim (reads.seen clean.0 usable.0) [
          | inl same ↦ same
          | inr back ↦ back ∙ at.rests.committed
        ]);
    done = tt;
  }

module _ (p : Profile) (one : OneHolding) (told : LotsAreSame) (m : Option Meta) (a b : State) (d : DataState) (settled : Settled a)
    (stays : IsTrue a.is_open → a.may_leave a.committed.trees) where
  pub looked_well : {memory : Type 0} {X : Type 0} → (x : X) → ServesAs {E = StoreFault} (HeldFor d.seen) (HeldFor d.seen) a b (Ok x)
      → OnlyReads {E = StoreFault} a b (Ok x) → StaysOpen {E = StoreFault} a b (Ok x) → (lot : Option ℕ) (failed : Bool)
      → Looked {A = X} (table_told p memory m (with_data a d) lot failed) (table_told p memory m (with_data b d) lot failed) (Ok x)
  looked_well x serves reads connection lot failed =
      seen_well p one told m (with_data a d) (with_data b d) settled stays (λ file may. may) m x x (looks_serve m a b d settled (Ok x) serves reads)
      (stays_usable a b d (Ok x) connection) lot failed

  pub looked_wrong : {memory : Type 0} {X : Type 0} → (e : StoreFault) → ServesAs {X = X} (HeldFor d.seen) (HeldFor d.seen) a b (Err e)
      → OnlyReads {X = X} a b (Err e) → StaysOpen {X = X} a b (Err e)
      → (HasCleanDisk b → (y : Holding) → RestsAs (HeldFor d.seen y) a → IsOutside e) → (lot : Option ℕ) (failed : Bool)
      → Looked {A = X} (table_told p memory m (with_data a d) lot failed) (table_told p memory m (with_data b d) lot true) (Err e)
  looked_wrong {X = X} e serves reads connection safe lot failed =
      seen_wrong p one told m (with_data a d) (with_data b d) settled stays (λ file may. may) m e (λ y k. k)
      (looks_serve m a b d settled {X = X} (Err e) serves reads) (stays_usable {X = X} a b d (Err e) connection) lot
      (may_where m lot (with_data a d) (with_data b d) e safe) failed

-- ---- a call that makes this of what is held

module _ (m : Option Meta) (f : Holding → Holding) (a b : State) (d : DataState) (settled : Settled a) where
  turns_left : {X : Type 0} (r : Result X StoreFault) → ServesAs (HeldFor d.seen) (λ y. HeldFor d.seen (f y)) a b r
      → LeavesMade m f (with_data a d) (with_data b d)
  turns_left r serves clean y at db may file may_file = elim (serves.survives.crash clean.0 db may) [
    | inl before ↦ inl (left_now m (with_data a d) y db file settled at before may_file)
    | inr made ↦ inr (subst (λ l. LeftAs (HeldFor l (f y)) db) (sym (at.synced file may_file)) (made y (held_rests m y (with_data a d) at)))
  ]

  -- nothing is known then; the pieces that are left were listed before
  pub turns_serve : {X : Type 0} (r : Result X StoreFault) → ServesAs (HeldFor d.seen) (λ y. HeldFor d.seen (f y)) a b r
      → ((y : Holding) → IsAtRest m y (with_data a d) → RestsAs (HeldFor d.seen (f y)) b → HasCleanDisk b → OnOk r (ListsInUse d.gaps b.now)) → OnErr r (RollsBack a b)
      → ServesStore m None f (with_data a d) (with_data b d) r
  turns_serve (Ok x) serves in_use back = record {
    honest = λ clean. (earlier a b _ serves.survives clean.0, clean.1);
    crash = turns_left (Ok x) serves;
    kept = tt;
    done = λ clean y at.
        let now = serves.done clean.0 y (held_rests m y (with_data a d) at) in
        record {
          rests = record { is_open = now.is_open; autocommit = now.autocommit; holds = (now.holds, tt); committed = now.committed };
          usable = at.usable;
          in_use = in_use y at now clean.0;
          synced = at.synced;
        };
  }
  turns_serve (Err e) serves in_use back = record {
    honest = λ clean. (earlier a b _ serves.survives clean.0, clean.1);
    crash = turns_left (Err e) serves;
    kept = λ clean usable y at.
        rests_still m y a b d at (serves.kept clean.0 usable.0 y (held_rests m y (with_data a d) at))
        ((back clean.0 usable.0).0 ∙ at.rests.committed);
    done = tt;
  }
