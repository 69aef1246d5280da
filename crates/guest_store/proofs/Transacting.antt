-- A transaction of a guest's store, of its steps.
use Rattle.std.proofs.Common.{◌≡◌, ℕ, List, Result, Ok, Err, inl, inr, refl, sym, subst, ◌∙◌}
use Rattle.sqlite.specs.State.{State, HasCleanDisk, KeepsCommit}
use Rattle.sqlite.specs.declared.error.Error.{Error}
use Rattle.sqlite.proofs.StateLemmas.{survives_then, survives_weaker}
use Rattle.sqlite.proofs.InsideLemmas.{keeps_then}
use Rattle.fuse_keeper.specs.Faults.{fault_of}
use Rattle.fuse_keeper.specs.declared.fault.StoreFault.{StoreFault}
use Rattle.fuse_keeper.specs.declared.fault.StoreFault.TheVariants.{Guest as GuestFailed}
use Rattle.fuse_guest.specs.Talk.{Guest}
use Rattle.fuse_store_tables.specs.Moves.{Begins, Ends, Undoes, Stays, GoesBack, CommitsNothing}
use Rattle.fuse_store_tables.specs.inner.Following.{earlier}
use Rattle.fuse_store_tables.specs.inner.Transaction.{failed_first, failed_inside, failed_commit, committed, open_first, open_inside, open_failed, open_committed, served, undone, open_undone}
use Rattle.guest_talk.specs.TalkState.{TalkState}
use Rattle.guest_store.specs.StoreState.{HeldOf, SaidAll, StoreState, IsHonest, IsAtRest, ServesStore, StoredFor}
use Rattle.guest_store.specs.Asks.{Asking, AreAsked, AreAskedUntil}
use Rattle.guest_store.specs.inner.Showing.{same_survives}
use Rattle.guest_store.specs.inner.Stepping.{StoredAs, Inside, Effect, Steps, with_talk}
use Rattle.guest_store.specs.inner.Transacting.{Transacts, Serves}
use Rattle.guest_store.proofs.Asked.{asked_all, still}
use Rattle.guest_store.proofs.Serving.{Settled, LeavesMade, left_now}
use Rattle.guest_store.proofs.Stepping.{spoke_none, said_before}
use Rattle.guest_store.proofs.Tables.{outside_of, outside_nothing, outside_plain}

module _ {A : Type 0} (G : Guest) (e : Effect G A) where
  -- the transaction didn't begin
  pub transact_first : (a b : State) (t : TalkState) (error : Error) (s : StoreFault) → s ≡ fault_of error → Begins {X = Unit {0}} a b (Err error)
      → Transacts {A = A} G e (with_talk a t) (with_talk b t) (Err s)
  transact_first a b t error s is p = record {
    performs = failed_first (StoredAs G t (λ y. y)) (StoredAs G t e.made) a b error s p;
    spoke = spoke_none t;
    value = tt;
    fault = λ honest n y at safe. outside_nothing s (outside_of error s is);
    open_still = open_first a b error s p;
    keeps = λ clean. p.kept clean;
    ended = tt;
    plain = λ honest n y at. outside_plain s (outside_of error s is);
    asked = λ honest n y at. still (e.asks y) t;
  }

  module _ {U : Type 0} (u : U) (a b : State) (t : TalkState) (p : Begins {E = Error} a b (Ok u)) where
    begun : HasCleanDisk b → (n : ℕ) (y : HeldOf G) → IsAtRest G n y a → Inside G n y b
    begun clean n y at =
        let on = p.begun clean in
        record { is_open = on.0; in_transaction = on.1; holds = subst (StoredFor G n y) (sym on.2) at.holds }

    kept : (d : State) → Stays b d → HasCleanDisk d → KeepsCommit a d
    kept d stays clean =
        let mid = earlier b d _ stays.survives clean in
        keeps_then a b d (p.kept mid) (stays.kept clean (p.begun mid).1)

    -- a step failed
    pub transact_inside : (d : StoreState) (s : StoreFault) → Steps {A = A} G e (with_talk b t) d (Err s) → Transacts {A = A} G e (with_talk a t) d (Err s)
    transact_inside d s q = record {
      performs = failed_inside (StoredAs G d.talk (λ y. y)) (StoredAs G d.talk e.made) (StoredAs G d.talk e.made) a b d.tables u s s p q.takes;
      spoke = q.spoke;
      value = tt;
      fault = λ honest n y at safe. q.fault honest n y (begun (earlier b d.tables _ q.takes.stays.survives honest.0) n y at) safe;
      open_still = open_inside a b d.tables u s p q.takes.stays.survives;
      keeps = λ clean. kept d.tables q.takes.stays clean;
      ended = tt;
      plain = λ honest n y at. q.plain honest n y (begun (earlier b d.tables _ q.takes.stays.survives honest.0) n y at);
      asked = λ honest n y at. q.asked honest n y (begun (earlier b d.tables _ q.takes.stays.survives honest.0) n y at);
    }

    module _ (d : StoreState) (x : A) (q : Steps G e (with_talk b t) d (Ok x)) (last : State) where
      clean_before : HasCleanDisk d.tables → HasCleanDisk b
      clean_before clean = earlier b d.tables _ q.takes.stays.survives clean

      -- the commit failed
      pub transact_failed : (error : Error) (s : StoreFault) → s ≡ fault_of error → Ends {X = Unit {0}} d.tables last (Err error)
          → Transacts {A = A} G e (with_talk a t) (with_talk last d.talk) (Err s)
      transact_failed error s is z = record {
        performs = failed_commit (StoredAs G d.talk (λ y. y)) (StoredAs G d.talk e.made) a b d.tables last u x error s p q.takes z;
        spoke = q.spoke;
        value = tt;
        fault = λ honest n y at safe. outside_nothing s (outside_of error s is);
        open_still = open_failed a b d.tables last u error s p q.takes.stays.survives z;
        keeps = λ clean. keeps_then a d.tables last (kept d.tables q.takes.stays (earlier d.tables last _ z.survives clean)) (z.kept clean);
        ended = tt;
        plain = λ honest n y at. outside_plain s (outside_of error s is);
        asked = λ honest n y at.
            let clean = earlier d.tables last _ z.survives honest.0 in
            asked_all (e.asks y) t d.talk (q.asked (clean, honest.1) n y (begun (clean_before clean) n y at));
      }

      pub transact_done : {V : Type 0} (v : V) → Ends {E = Error} d.tables last (Ok v) → Transacts G e (with_talk a t) (with_talk last d.talk) (Ok x)
      transact_done v z = record {
        performs = committed (StoredAs G d.talk (λ y. y)) (StoredAs G d.talk e.made) a b d.tables last u x v x p q.takes z;
        spoke = q.spoke;
        value = λ honest n y at.
            let clean = earlier d.tables last _ z.survives honest.0 in
            q.value (clean, honest.1) n y (begun (clean_before clean) n y at);
        fault = tt;
        open_still = open_committed a b d.tables last u v x p q.takes.stays.survives z;
        keeps = tt;
        ended = λ clean. (z.ended clean).1;
        plain = tt;
        asked = λ honest n y at.
            let clean = earlier d.tables last _ z.survives honest.0 in
            q.asked (clean, honest.1) n y (begun (clean_before clean) n y at);
      }

  -- nothing was asked
  pub stood : (a : StoreState) → Transacts {A = A} G e a a (Err GuestFailed)
  stood a = record {
    performs = record {
      survives = same_survives a.tables _;
      kept = λ clean c at. record { was_open = λ is_open. is_open; committed = λ is_open. refl };
      done = tt;
    };
    spoke = spoke_none a.talk;
    value = tt;
    fault = λ honest n y at safe. tt;
    open_still = record { was = λ clean is_open. is_open; still = tt };
    keeps = λ clean. record { was_open = λ is_open. is_open; committed = λ is_open. refl };
    ended = tt;
    plain = λ honest n y at. tt;
    asked = λ honest n y at. still (e.asks y) a.talk;
  }

  -- ---- with the rollback after a fault

  pub serve_done : (a b : StoreState) (x : A) → Transacts G e a b (Ok x) → Serves G e a b (Ok x)
  serve_done a b x p = record {
    serves = served (StoredAs G b.talk (λ y. y)) (StoredAs G b.talk e.made) a.tables b.tables x x p.performs;
    spoke = p.spoke;
    value = p.value;
    fault = tt;
    open_still = p.open_still;
    plain = tt;
    asked = p.asked;
  }

  pub serve_undone : (a b : StoreState) (d : State) (s : StoreFault) → Transacts {A = A} G e a b (Err s) → Undoes b.tables d
      → Serves {A = A} G e a (with_talk d b.talk) (Err s)
  serve_undone a b d s p u = record {
    serves = undone (StoredAs G b.talk (λ y. y)) (StoredAs G b.talk e.made) a.tables b.tables d s s p.performs u;
    spoke = p.spoke;
    value = tt;
    fault = λ honest. p.fault (earlier b.tables d _ u.survives honest.0, honest.1);
    open_still = open_undone a.tables b.tables d s s p.open_still u;
    plain = λ honest. p.plain (earlier b.tables d _ u.survives honest.0, honest.1);
    asked = λ honest. p.asked (earlier b.tables d _ u.survives honest.0, honest.1);
  }

  -- ---- as a call of the store

  module _ (a b : StoreState) (settled : Settled a.tables) where
    honest_first : {r : Result A StoreFault} → Serves G e a b r → IsHonest G b → IsHonest G a
    honest_first p honest = (earlier a.tables b.tables _ p.serves.survives honest.0, said_before G a.talk b.talk p.spoke honest.1)

    leaves : {r : Result A StoreFault} → Serves G e a b r → LeavesMade G e.made a b
    leaves p honest n y at db may = elim (p.serves.survives.crash honest.0 db may) [
      | inl before ↦ inl (left_now G a.tables n y db settled at before)
      | inr made ↦ inr (made (record { number = n; holding = y; said = honest.1 }) at)
    ]

    pub store_done : (x : A) → Serves G e a b (Ok x) → ServesStore G e.made a b (Ok x)
    store_done x p = record {
      honest = honest_first p;
      ready = p.spoke.ready;
      crash = leaves p;
      kept = tt;
      done = λ honest n y at. p.serves.done honest.0 (record { number = n; holding = y; said = honest.1 }) at;
    }

    pub store_failed : (s : StoreFault) → Serves {A = A} G e a b (Err s) → ServesStore {X = A} G e.made a b (Err s)
    store_failed s p = record {
      honest = honest_first p;
      ready = p.spoke.ready;
      crash = leaves p;
      kept = λ honest is_open n y at. p.serves.kept honest.0 is_open (record { number = n; holding = y; said = honest.1 }) at;
      done = tt;
    }

-- ---- what is seen in a transaction that is rolled back

module _ {A : Type 0} (G : Guest) (e : Effect G A) (h : Effect G A) {U : Type 0} (u : U) (a b : State) (t : TalkState) (p : Begins {E = Error} a b (Ok u)) (d : StoreState) (x : A)
    (q : Steps G e (with_talk b t) d (Ok x)) (last : State) (alike : (y : HeldOf G) → e.asks y ≡ h.asks y) where
  nothing : CommitsNothing a d.tables
  nothing = record {
    survives = survives_then a b d.tables _ _ _ (λ _ db none. none)
        (λ clean db none. absurd (none (p.begun (earlier b d.tables _ q.takes.stays.survives clean)).1)) p.survives q.takes.stays.survives;
    kept = λ clean. kept G e u a b t p d.tables q.takes.stays clean;
  }

  -- all of it committed nothing
  module _ (more : CommitsNothing d.tables last) where
    whole : CommitsNothing a last
    whole = record {
      survives = survives_then a d.tables last _ _ _ (λ _ db none. none) (λ _ db none. none) nothing.survives more.survives;
      kept = λ clean. keeps_then a d.tables last (nothing.kept (earlier d.tables last _ more.survives clean)) (more.kept clean);
    }

    pub back_failed : (error : Error) (s : StoreFault) → s ≡ fault_of error → Transacts {A = A} G h (with_talk a t) (with_talk last d.talk) (Err s)
    back_failed error s is = record {
      performs = record { survives = survives_weaker a last _ _ (λ _ db none. absurd none) whole.survives; kept = λ clean w at. whole.kept clean; done = tt };
      spoke = q.spoke;
      value = tt;
      fault = λ honest n y at safe. outside_nothing s (outside_of error s is);
      open_still = record { was = λ clean is_open. (whole.kept clean).was_open is_open; still = tt };
      keeps = λ clean. whole.kept clean;
      ended = tt;
      plain = λ honest n y at. outside_plain s (outside_of error s is);
      asked = λ honest n y at.
          let mid = earlier d.tables last _ more.survives honest.0 in
          let inside = begun G e u a b t p (earlier b d.tables _ q.takes.stays.survives mid) n y at in
          subst (λ (l : List Asking). AreAskedUntil l t d.talk) (alike y) (asked_all (e.asks y) t d.talk (q.asked (mid, honest.1) n y inside));
    }

  pub back_done : {V : Type 0} (v : V) → GoesBack {E = Error} d.tables last (Ok v)
      → (SaidAll G d.talk → (y : HeldOf G) → e.told y x → (h.made y ≡ y) × h.told y x) → Transacts G h (with_talk a t) (with_talk last d.talk) (Ok x)
  back_done v z so = record {
    performs = record {
      survives = survives_weaker a last _ _ (λ _ db none. absurd none) (whole z.commits).survives;
      kept = tt;
      done = λ clean w at.
          let back = z.back clean in
          let mid = earlier d.tables last _ z.commits.survives clean in
          let was = (z.commits.kept clean).was_open back.0 in
          let is = back.2 ∙ (nothing.kept mid).committed was ∙ at.committed in
          let inside = begun G e u a b t p (earlier b d.tables _ q.takes.stays.survives mid) w.number w.holding at in
          let known = q.value (mid, w.said) w.number w.holding inside in
          record {
            is_open = back.0;
            autocommit = back.1;
            holds = subst (λ (u : HeldOf G). StoredFor G w.number u last.now) (sym (so w.said w.holding known).0) (subst (StoredFor G w.number w.holding) (sym is) at.holds);
            committed = back.3 ∙ sym back.2;
          };
    };
    spoke = q.spoke;
    value = λ honest n y at.
        let mid = earlier d.tables last _ z.commits.survives honest.0 in
        let inside = begun G e u a b t p (earlier b d.tables _ q.takes.stays.survives mid) n y at in
        (so honest.1 y (q.value (mid, honest.1) n y inside)).1;
    fault = tt;
    open_still = record { was = λ clean is_open. ((whole z.commits).kept clean).was_open is_open; still = λ clean was. (z.back clean).0 };
    keeps = tt;
    ended = λ clean. (z.back clean).1;
    plain = tt;
    asked = λ honest n y at.
        let mid = earlier d.tables last _ z.commits.survives honest.0 in
        let inside = begun G e u a b t p (earlier b d.tables _ q.takes.stays.survives mid) n y at in
        subst (λ (l : List Asking). AreAsked l t d.talk) (alike y) (q.asked (mid, honest.1) n y inside);
  }
