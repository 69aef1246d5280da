-- A whole call of a guest's store, in other words.
use Rattle.std.proofs.Common.{◌≡◌, ◌++◌, ℕ, Bool, true, false, cond, List, [], ◌∷◌, Option, Some, None, Ok, Err, refl, sym, ap, subst, ◌∙◌}
use Rattle.sqlite.specs.Effect.{Database}
use Rattle.fuse_keeper.specs.History.{Entry, entry_id, is_seen, kept_of, unless_seen}
use Rattle.fuse_keeper.specs.Model.{Model}
use Rattle.fuse_keeper.specs.declared.fault.StoreFault.{StoreFault}
use Rattle.fuse_guest.specs.Talk.{Guest}
use Rattle.fuse_guest.specs.Service.{service_of}
use Rattle.fuse_guest.specs.GuestModel.{GuestState, guest_model}
use Rattle.guest_store.specs.declared.group.Transacted.{Transacted}
use Rattle.guest_store.specs.declared.transaction.Performed.{Performed}
use Rattle.guest_store.specs.declared.store.Deaths.{Deaths}
use Rattle.guest_store.specs.Asks.{Asking, AreAsked, AreAskedUntil, all_asks, asks_of, asks_one, asks_unless}
use Rattle.guest_store.specs.Holding.{Holding, records_of}
use Rattle.guest_store.specs.Group.{all_dones, dones_of, done_newly, keeps_nothing, lot_for, said_of, taken_if, transacted, with_lot_for}
use Rattle.guest_store.specs.StoreState.{HeldOf, SaidAll, StoreState, StoredFor}
use Rattle.guest_store.specs.inner.Stepping.{Effect, StoredAs, Witness}
use Rattle.guest_store.specs.inner.Transacting.{Serves, performing, sighting, transacting}
use Rattle.guest_store.proofs.Retelling.{Retold, served_so}

module _ {A C : Type 0} (G : Guest) (e : Effect G A) (h : Effect G C) (a b : StoreState) (same : SaidAll G b.talk → (w : HeldOf G) → e.made w ≡ h.made w)
    (alike : SaidAll G b.talk → (w : HeldOf G) → e.asks w ≡ h.asks w) where
  told_as : (w : Witness G b.talk) (d : Database) → StoredAs G b.talk (λ y. y) w d
      → Retold (StoredAs G b.talk (λ y. y)) (StoredAs G b.talk e.made) (StoredAs G b.talk (λ y. y)) (StoredAs G b.talk h.made) w d
  told_as w d at = record {
    content = w;
    holds = at;
    same = λ x k. k;
    made = λ x k. subst (λ (u : HeldOf G). StoredFor G w.number u x) (same w.said w.holding) k;
  }

  pub serve_as : (x : A) (z : C) → (SaidAll G b.talk → (w : HeldOf G) → e.told w x → h.told w z) → Serves G e a b (Ok x) → Serves G h a b (Ok z)
  serve_as x z so p =
      let q = served_so (StoredAs G b.talk (λ y. y)) (StoredAs G b.talk e.made) (StoredAs G b.talk (λ y. y)) (StoredAs G b.talk h.made) told_as a.tables b.tables (Ok x) p.serves in
      record {
        serves = record { survives = q.survives; kept = tt; done = q.done };
        spoke = p.spoke;
        value = λ honest n y at. so honest.1 y (p.value honest n y at);
        fault = tt;
        open_still = record { was = p.open_still.was; still = p.open_still.still };
        plain = tt;
        asked = λ honest n y at. subst (λ (l : List Asking). AreAsked l a.talk b.talk) (alike honest.1 y) (p.asked honest n y at);
      }

  pub serve_fails : (s : StoreFault) → ((w : HeldOf G) → h.safe w → e.safe w) → Serves {A = A} G e a b (Err s) → Serves {A = C} G h a b (Err s)
  serve_fails s so p =
      let q = served_so (StoredAs G b.talk (λ y. y)) (StoredAs G b.talk e.made) (StoredAs G b.talk (λ y. y)) (StoredAs G b.talk h.made) told_as {X = A} a.tables b.tables (Err s) p.serves in
      record {
        serves = record { survives = q.survives; kept = q.kept; done = tt };
        spoke = p.spoke;
        value = tt;
        fault = λ honest n y at safe. p.fault honest n y at (so y safe);
        open_still = record { was = p.open_still.was; still = tt };
        plain = p.plain;
        asked = λ honest n y at. subst (λ (l : List Asking). AreAskedUntil l a.talk b.talk) (alike honest.1 y) (p.asked honest n y at);
      }

-- ---- a group of which none is kept

lot_state : {M : Model} → (lot : Option ℕ) (y : Holding M) → (with_lot_for lot y).state ≡ y.state
lot_state None y = refl
lot_state (Some lot) y = refl

-- their answers are those of the state alone
module _ (M : Model) where
  seen_dones : (es : List Entry) (lot k : ℕ) (x y : Holding M) → x.state ≡ y.state → kept_of M.service es ≡ [] → dones_of lot es x ≡ dones_of k es y
  seen_dones [] lot k x y same none = refl
  seen_dones (e ∷ es) lot k x y same none = by (is_seen M.service e) refl (λ rest. seen_dones es lot k x y same rest)
    where
      by : (b : Bool) → is_seen M.service e ≡ b → (kept_of M.service es ≡ [] → dones_of lot es x ≡ dones_of k es y) → dones_of lot (e ∷ es) x ≡ dones_of k (e ∷ es) y
      by true is more =
          let rest : kept_of M.service es ≡ [] = subst (λ (t : Bool). unless_seen t e ++ kept_of M.service es ≡ []) is none in
          let first : dones_of lot (e ∷ es) x ≡ done_newly (said_of e x) ∷ dones_of lot es x = ap (λ t. (taken_if t lot e x).done ∷ dones_of lot es (taken_if t lot e x).holding) is in
          let last : dones_of k (e ∷ es) y ≡ done_newly (said_of e y) ∷ dones_of k es y = ap (λ t. (taken_if t k e y).done ∷ dones_of k es (taken_if t k e y).holding) is in
          first ∙ ap (λ (s : M.State). done_newly (M.answer s e.asked e.moment) ∷ dones_of lot es x) same
          ∙ ap (λ ds. done_newly (said_of e y) ∷ ds) (more rest) ∙ sym last
      by false is more = absurd (let no = subst (λ (t : Bool). unless_seen t e ++ kept_of M.service es ≡ []) is none in cc)

-- and so is what they are asked
module _ (G : Guest) (deaths : Option Deaths) where
  -- the first of them, by whether it is seen
  abbrev first_asks : Bool → ℕ → Entry → List Entry → HeldOf G → List Asking
  first_asks t lot e es y =
      cond t (asks_one G.ready deaths e y.state) (asks_unless (records_of y.kept (entry_id e)) (asks_one G.ready deaths e y.state))
      ++ asks_of G deaths lot es (taken_if t lot e y).holding

  seen_asks : (es : List Entry) (lot k : ℕ) (x y : HeldOf G) → x.state ≡ y.state → kept_of (guest_model G).service es ≡ []
      → asks_of G deaths lot es x ≡ asks_of G deaths k es y
  seen_asks [] lot k x y same none = refl
  seen_asks (e ∷ es) lot k x y same none = by (is_seen (guest_model G).service e) refl (λ rest. seen_asks es lot k x y same rest)
    where
      by : (b : Bool) → is_seen (guest_model G).service e ≡ b → (kept_of (guest_model G).service es ≡ [] → asks_of G deaths lot es x ≡ asks_of G deaths k es y)
          → asks_of G deaths lot (e ∷ es) x ≡ asks_of G deaths k (e ∷ es) y
      by true is more =
          let rest : kept_of (guest_model G).service es ≡ [] = subst (λ (t : Bool). unless_seen t e ++ kept_of (guest_model G).service es ≡ []) is none in
          ap (λ t. first_asks t lot e es x) is ∙ ap (λ (s : GuestState). asks_one G.ready deaths e s ++ asks_of G deaths lot es x) same
          ∙ ap (λ l. asks_one G.ready deaths e y.state ++ l) (more rest) ∙ ap (λ t. first_asks t k e es y) (sym is)
      by false is more = absurd (let no = subst (λ (t : Bool). unless_seen t e ++ kept_of (guest_model G).service es ≡ []) is none in cc)

-- ---- a whole call

pub nothing_kept : (kept : List Entry) (ids : List ℕ) → keeps_nothing kept ids ≡ true → (kept ≡ []) × (ids ≡ [])
nothing_kept [] [] is = (refl, refl)
nothing_kept [] (id ∷ ids) is = absurd (cc is)
nothing_kept (e ∷ es) ids is = absurd (cc is)

module _ (G : Guest) (deaths : Option Deaths) (lot : Option ℕ) (ids : List ℕ) (es : List Entry) (a b : StoreState) where
  pub saw : (t : Transacted) (p : Performed) → p.lot ≡ lot → p.dones.items ≡ t.dones.items → keeps_nothing (kept_of (service_of b.talk.ready) es) ids ≡ true
      → Serves G (sighting G deaths es) a b (Ok t) → Serves G (performing G deaths lot ids es) a b (Ok p)
  saw t p same dones none q =
      serve_as G (sighting G deaths es) (performing G deaths lot ids es) a b
      (λ all w. ap (λ x. cond x w (transacted lot ids es w)) (sym (here all)))
      (λ all w. seen_asks G deaths es 0 (lot_for lot w) w (with_lot_for lot w) (sym (lot_state lot w)) (nothing_kept _ ids (here all)).0
      ∙ ap (λ l. all_asks G deaths lot l es w) (sym (nothing_kept _ ids (here all)).1))
      t p
      (λ all w told. (
        same ∙ ap (λ x. cond x lot (Some (lot_for lot w))) (sym (here all)),
        dones ∙ told ∙ seen_dones (guest_model G) es 0 (lot_for lot w) w (with_lot_for lot w) (sym (lot_state lot w)) (nothing_kept _ ids (here all)).0
            ∙ ap (λ l. all_dones lot l es w) (sym (nothing_kept _ ids (here all)).1),
      ))
      q
    where
      here : SaidAll G b.talk → keeps_nothing (kept_of (guest_model G).service es) ids ≡ true
      here all = subst (λ r. keeps_nothing (kept_of (service_of r) es) ids ≡ true) all.ready none

  pub saw_not : (s : StoreFault) → keeps_nothing (kept_of (service_of b.talk.ready) es) ids ≡ true
      → Serves {A = Transacted} G (sighting G deaths es) a b (Err s) → Serves {A = Performed} G (performing G deaths lot ids es) a b (Err s)
  saw_not s none q =
      serve_fails G (sighting G deaths es) (performing G deaths lot ids es) a b
      (λ all w. ap (λ x. cond x w (transacted lot ids es w)) (sym (here all)))
      (λ all w. seen_asks G deaths es 0 (lot_for lot w) w (with_lot_for lot w) (sym (lot_state lot w)) (nothing_kept _ ids (here all)).0
      ∙ ap (λ l. all_asks G deaths lot l es w) (sym (nothing_kept _ ids (here all)).1)) s (λ w safe. tt) q
    where
      here : SaidAll G b.talk → keeps_nothing (kept_of (guest_model G).service es) ids ≡ true
      here all = subst (λ r. keeps_nothing (kept_of (service_of r) es) ids ≡ true) all.ready none

  pub did : (t : Transacted) (p : Performed) → p.lot ≡ Some t.lot → p.dones.items ≡ t.dones.items
      → keeps_nothing (kept_of (service_of b.talk.ready) es) ids ≡ false
      → Serves G (transacting G deaths lot ids es) a b (Ok t) → Serves G (performing G deaths lot ids es) a b (Ok p)
  did t p same dones some q =
      serve_as G (transacting G deaths lot ids es) (performing G deaths lot ids es) a b
      (λ all w. ap (λ x. cond x w (transacted lot ids es w)) (sym (here all)))
      (λ all w. refl)
      t p
      (λ all w told. (
        same ∙ ap (λ k. Some k) told.0 ∙ ap (λ x. cond x lot (Some (lot_for lot w))) (sym (here all)),
        dones ∙ told.1,
      ))
      q
    where
      here : SaidAll G b.talk → keeps_nothing (kept_of (guest_model G).service es) ids ≡ false
      here all = subst (λ r. keeps_nothing (kept_of (service_of r) es) ids ≡ false) all.ready some

  pub did_not : (s : StoreFault) → keeps_nothing (kept_of (service_of b.talk.ready) es) ids ≡ false
      → Serves {A = Transacted} G (transacting G deaths lot ids es) a b (Err s) → Serves {A = Performed} G (performing G deaths lot ids es) a b (Err s)
  did_not s some q =
      serve_fails G (transacting G deaths lot ids es) (performing G deaths lot ids es) a b
      (λ all w. ap (λ x. cond x w (transacted lot ids es w)) (sym (here all)))
      (λ all w. refl) s (λ w safe. safe) q
    where
      here : SaidAll G b.talk → keeps_nothing (kept_of (guest_model G).service es) ids ≡ false
      here all = subst (λ r. keeps_nothing (kept_of (service_of r) es) ids ≡ false) all.ready some
