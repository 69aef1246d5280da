-- Steps within a transaction, one after another.
use Rattle.std.proofs.Common.{◌≡◌, ◌++◌, ℕ, List, [], ◌∷◌, Ok, Err, refl, sym, ap, subst, ◌∙◌}
use Rattle.std.proofs.lemmas.List.{append_assoc}
use Rattle.sqlite.specs.State.{State}
use Rattle.fuse_keeper.specs.declared.fault.StoreFault.{StoreFault}
use Rattle.fuse_guest.specs.Talk.{Guest}
use Rattle.fuse_store_tables.specs.Moves.{InsideAs, Takes, Stays}
use Rattle.fuse_store_tables.specs.inner.Following.{earlier, stays_then, inside_then}
use Rattle.guest_tables.specs.Holding.{GuestHolding, HeldFor}
use Rattle.fuse_guest.specs.Conversations.{Conversation}
use Rattle.guest_talk.specs.Events.{Event, talk_events, IsNoted, AgreesWithAll}
use Rattle.guest_talk.specs.TalkState.{TalkState}
use Rattle.guest_tables.specs.Opening.{AreRecords}
use Rattle.guest_store.specs.StoreState.{HeldOf, SaidAll, StoreState, IsHonest, IsPlain, SaysNothing, held_as}
use Rattle.guest_store.specs.inner.Showing.{looked_still}
use Rattle.guest_store.specs.inner.Stepping.{Inside, Spoke, Effect, Steps, with_talk}
use Rattle.guest_store.specs.Asks.{Asking, AreAsked}
use Rattle.guest_store.proofs.Asked.{AreFirst, asked_then, no_more, still, until_then}

-- ---- the talk

pub spoke_none : (t : TalkState) → Spoke t t
spoke_none t = record { ready = refl; more = []; grows = no_more t.events }

pub spoke_then : (a b d : TalkState) → Spoke a b → Spoke b d → Spoke a d
spoke_then a b d p q = record {
  ready = q.ready ∙ p.ready;
  more = p.more ++ q.more;
  grows = q.grows ∙ ap (λ l. l ++ q.more) p.grows ∙ append_assoc a.events p.more q.more;
}

-- what was noted still is
noted_more : (events more : List Event) (c : Conversation) → IsNoted events c → IsNoted (events ++ more) c
noted_more events more c n = record {
  before = n.before;
  later = n.later ++ more;
  count = n.count;
  here = ap (λ l. l ++ more) n.here ∙ append_assoc n.before (talk_events n.count c ++ n.later) more
      ∙ ap (λ l. n.before ++ l) (append_assoc (talk_events n.count c) n.later more);
  whole = n.whole;
}

-- a guest that said all said what was said before
pub said_before : (G : Guest) (a b : TalkState) → Spoke a b → SaidAll G b → SaidAll G a
said_before G a b s said = record {
  ready = sym s.ready ∙ said.ready;
  said = λ c n. subst (AgreesWithAll G) s.grows said.said c (noted_more a.events s.more c n);
}

pub honest_before : (G : Guest) (a b : StoreState) → Stays a.tables b.tables → Spoke a.talk b.talk → IsHonest G b → IsHonest G a
honest_before G a b keeps s honest = (earlier a.tables b.tables _ keeps.survives honest.0, said_before G a.talk b.talk s honest.1)

-- ---- one step after another

module _ {A B : Type 0} (G : Guest) (e : Effect G A) (f : Effect G B) (a b d : StoreState) (x : A) (p : Steps G e a b (Ok x)) where
  -- where the first one began, the second one does
  module _ (q : Stays b.tables d.tables) (more : Spoke b.talk d.talk) (honest : IsHonest G d) (n : ℕ) (y : HeldOf G) (at : Inside G n y a.tables) where
    mid : IsHonest G b
    mid = honest_before G b d q more honest

    begun : Inside G n (e.made y) b.tables
    begun = p.takes.turns mid.0 (record { number = n; holding = y; said = mid.1 }) at

    known : e.told y x
    known = p.value mid n y at

  pub step_ok : {C : Type 0} → (h : Effect G C) (y : B) (z : C) → Steps G f b d (Ok y)
      → (SaidAll G d.talk → (w : HeldOf G) → e.told w x → f.told (e.made w) y → (f.made (e.made w) ≡ h.made w) × h.told w z)
      → (SaidAll G d.talk → (w : HeldOf G) → e.told w x → e.asks w ++ f.asks (e.made w) ≡ h.asks w) → Steps G h a d (Ok z)
  step_ok h y z q so joins = record {
    takes = record {
      stays = stays_then a.tables b.tables d.tables p.takes.stays p.takes.within q.takes.stays;
      within = inside_then a.tables b.tables d.tables p.takes.within q.takes.stays.survives q.takes.within;
      turns = λ clean w at.
          let honest : IsHonest G d = (clean, w.said) in
          let next = begun q.takes.stays q.spoke honest w.number w.holding at in
          let last = q.takes.turns clean (record { number = w.number; holding = e.made w.holding; said = w.said }) next in
          subst (λ (u : HeldOf G). Inside G w.number u d.tables)
          (so w.said w.holding (known q.takes.stays q.spoke honest w.number w.holding at) (q.value honest w.number (e.made w.holding) next)).0 last;
    };
    spoke = spoke_then a.talk b.talk d.talk p.spoke q.spoke;
    value = λ honest n w at.
        (so honest.1 w (known q.takes.stays q.spoke honest n w at) (q.value honest n (e.made w) (begun q.takes.stays q.spoke honest n w at))).1;
    fault = tt;
    plain = tt;
    asked = λ honest n w at.
        subst (λ (l : List Asking). AreAsked l a.talk d.talk) (joins honest.1 w (known q.takes.stays q.spoke honest n w at))
        (asked_then (e.asks w) (f.asks (e.made w)) a.talk b.talk d.talk (p.asked (mid q.takes.stays q.spoke honest n w at) n w at)
        (q.asked honest n (e.made w) (begun q.takes.stays q.spoke honest n w at)));
  }

  pub step_err : {C : Type 0} → (h : Effect G C) (s : StoreFault) → Steps G f b d (Err s) → ((w : HeldOf G) → e.told w x → h.safe w → f.safe (e.made w))
      → (SaidAll G d.talk → (w : HeldOf G) → e.told w x → AreFirst (e.asks w ++ f.asks (e.made w)) (h.asks w)) → Steps {A = C} G h a d (Err s)
  step_err h s q so first = record {
    takes = record {
      stays = stays_then a.tables b.tables d.tables p.takes.stays p.takes.within q.takes.stays;
      within = tt;
      turns = tt;
    };
    spoke = spoke_then a.talk b.talk d.talk p.spoke q.spoke;
    value = tt;
    fault = λ honest n w at safe.
        q.fault honest n (e.made w) (begun q.takes.stays q.spoke honest n w at) (so w (known q.takes.stays q.spoke honest n w at) safe);
    plain = λ honest n w at. q.plain honest n (e.made w) (begun q.takes.stays q.spoke honest n w at);
    asked = λ honest n w at.
        until_then (e.asks w) (f.asks (e.made w)) (h.asks w) a.talk b.talk d.talk (p.asked (mid q.takes.stays q.spoke honest n w at) n w at)
        (q.asked honest n (e.made w) (begun q.takes.stays q.spoke honest n w at)) (first honest.1 w (known q.takes.stays q.spoke honest n w at));
  }

-- a step that failed, of another value
pub step_fails : {A C : Type 0} → (G : Guest) (e : Effect G A) (h : Effect G C) (a b : StoreState) (s : StoreFault) → Steps {A = A} G e a b (Err s)
    → ((w : HeldOf G) → h.safe w → e.safe w) → (SaidAll G b.talk → (w : HeldOf G) → AreFirst (e.asks w) (h.asks w)) → Steps {A = C} G h a b (Err s)
step_fails G e h a b s p so first = record {
  takes = record { stays = p.takes.stays; within = tt; turns = tt };
  spoke = p.spoke;
  value = tt;
  fault = λ honest n w at safe. p.fault honest n w at (so w safe);
  plain = p.plain;
  asked = λ honest n w at. until_then [] (e.asks w) (h.asks w) a.talk a.talk b.talk refl (p.asked honest n w at) (first honest.1 w);
}

-- a step that succeeded, in other words
pub step_as : {A C : Type 0} → (G : Guest) (e : Effect G A) (h : Effect G C) (a b : StoreState) (x : A) (z : C) → Steps G e a b (Ok x)
    → (SaidAll G b.talk → (w : HeldOf G) → e.told w x → (e.made w ≡ h.made w) × h.told w z)
    → (SaidAll G b.talk → (w : HeldOf G) → e.told w x → e.asks w ≡ h.asks w) → Steps G h a b (Ok z)
step_as G e h a b x z p so same = record {
  takes = record {
    stays = p.takes.stays;
    within = p.takes.within;
    turns = λ clean w at.
        subst (λ (u : HeldOf G). Inside G w.number u b.tables) (so w.said w.holding (p.value (clean, w.said) w.number w.holding at)).0
        (p.takes.turns clean w at);
  };
  spoke = p.spoke;
  value = λ honest n w at. (so honest.1 w (p.value honest n w at)).1;
  fault = tt;
  plain = tt;
  asked = λ honest n w at. subst (λ (l : List Asking). AreAsked l a.talk b.talk) (same honest.1 w (p.value honest n w at)) (p.asked honest n w at);
}

-- ---- no step

-- a value that is known without one
pub step_none : {A : Type 0} → (G : Guest) (e : Effect G A) (a : StoreState) (x : A)
    → (SaidAll G a.talk → (y : HeldOf G) → AreRecords y.kept → (e.made y ≡ y) × e.told y x) → ((y : HeldOf G) → e.asks y ≡ []) → Steps G e a a (Ok x)
step_none G e a x so none = record {
  takes = record {
    stays = (looked_still a.tables).stays;
    within = λ clean inside. inside;
    turns = λ clean w at. subst (λ (u : HeldOf G). Inside G w.number u a.tables) (sym (so w.said w.holding at.holds.records).0) at;
  };
  spoke = spoke_none a.talk;
  value = λ honest n y at. (so honest.1 y at.holds.records).1;
  fault = tt;
  plain = tt;
  asked = λ honest n y at. subst (λ (l : List Asking). AreAsked l a.talk a.talk) (sym (none y)) refl;
}

-- a fault that says nothing of the store
pub step_stops : {A : Type 0} → (G : Guest) (e : Effect G A) (a : StoreState) (s : StoreFault) → SaysNothing s → IsPlain s → Steps {A = A} G e a a (Err s)
step_stops G e a s safe plain = record {
  takes = record { stays = (looked_still a.tables).stays; within = tt; turns = tt };
  spoke = spoke_none a.talk;
  value = tt;
  fault = λ honest n y at is. safe;
  plain = λ honest n y at. plain;
  asked = λ honest n y at. still (e.asks y) a.talk;
}

-- ---- steps of the tables alone

pub held_inside : (G : Guest) (n : ℕ) (y : HeldOf G) (s : State) → Inside G n y s → InsideAs (HeldFor (held_as G n y)) s
held_inside G n y s at = record { is_open = at.is_open; in_transaction = at.in_transaction; holds = at.holds.held }

pub table_ok : {A E : Type 0} → (G : Guest) (h : GuestHolding → GuestHolding) (e : Effect G A) (a b : State) (t : TalkState) (x : A)
    → Takes {E = E} HeldFor (λ y. HeldFor (h y)) a b (Ok x) → ((n : ℕ) (y : HeldOf G) → h (held_as G n y) ≡ held_as G n (e.made y))
    → ((y : HeldOf G) → AreRecords y.kept → AreRecords (e.made y).kept) → ((y : HeldOf G) → e.told y x) → ((y : HeldOf G) → e.asks y ≡ [])
    → Steps G e (with_talk a t) (with_talk b t) (Ok x)
table_ok G h e a b t x p same records told none = record {
  takes = record {
    stays = p.stays;
    within = p.within;
    turns = λ clean w at.
        let now = p.turns clean (held_as G w.number w.holding) (held_inside G w.number w.holding a at) in
        record {
          is_open = now.is_open;
          in_transaction = now.in_transaction;
          holds = record {
            held = subst (λ (u : GuestHolding). HeldFor u b.now) (same w.number w.holding) now.holds;
            records = records w.holding at.holds.records;
          };
        };
  };
  spoke = spoke_none t;
  value = λ honest n y at. told y;
  fault = tt;
  plain = tt;
  asked = λ honest n y at. subst (λ (l : List Asking). AreAsked l t t) (sym (none y)) refl;
}

-- a call that failed, whatever it was to make
pub table_err : {A : Type 0} → (G : Guest) (e : Effect G A) (a b : State) (t : TalkState) (s : StoreFault) → Stays a b → SaysNothing s → IsPlain s
    → Steps {A = A} G e (with_talk a t) (with_talk b t) (Err s)
table_err G e a b t s keeps safe plain = record {
  takes = record { stays = keeps; within = tt; turns = tt };
  spoke = spoke_none t;
  value = tt;
  fault = λ honest n y at is. safe;
  plain = λ honest n y at. plain;
  asked = λ honest n y at. still (e.asks y) t;
}
