-- Calls of the tables outside a transaction, as calls of a guest's store.
use Rattle.std.proofs.Common.{◌≡◌, ℕ, [], None, Ok, Err, Result, IfOk, IfErr, refl, sym, ap, subst, ◌∙◌}
use Rattle.std.specs.Prelude.{⊤}
use Rattle.sqlite.specs.Effect.{Database}
use Rattle.sqlite.specs.State.{State, HasCleanDisk}
use Rattle.fuse_keeper.specs.declared.fault.StoreFault.{StoreFault}
use Rattle.fuse_guest.specs.Talk.{Guest}
use Rattle.fuse_store_tables.specs.Faults.{IsOutside, IsPlain as IsOfTables}
use Rattle.fuse_store_tables.specs.Moves.{RestsAs, ServesAs, StaysOpen}
use Rattle.guest_tables.specs.Clearing.{cleared}
use Rattle.guest_tables.specs.Content.{GuestContent, Holds}
use Rattle.guest_tables.specs.Holding.{GuestHolding, HeldFor, holding_in}
use Rattle.guest_tables.specs.Opening.{AreRecords, IsFitContent, IsStored}
use Rattle.guest_talk.specs.TalkState.{TalkState}
use Rattle.guest_store.specs.Mounting.{begun}
use Rattle.guest_store.specs.StoreState.{HeldOf, IsAtRest, SaidAll, held_as}
use Rattle.guest_store.specs.inner.Stepping.{Witness, StoredAs, making, with_talk}
use Rattle.guest_store.specs.inner.Transacting.{Serves}
use Rattle.guest_store.proofs.MetaRows.{MetaValues, rows_of, meta_is}
use Rattle.guest_store.proofs.Retelling.{Retold, served_so}
use Rattle.fuse_store_tables.specs.inner.Following.{earlier, open_then, open_told, rests_then, rests_told}
use Rattle.guest_store.specs.inner.Showing.{same_survives}
use Rattle.guest_store.proofs.Asked.{still}
use Rattle.guest_store.proofs.Stepping.{spoke_none}
use Rattle.guest_store.proofs.Tables.{outside_nothing, outside_plain, plain_of}

pub held_at_rest : (G : Guest) (n : ℕ) (y : HeldOf G) (s : State) → IsAtRest G n y s → RestsAs (HeldFor (held_as G n y)) s
held_at_rest G n y s at = record { is_open = at.is_open; autocommit = at.autocommit; holds = at.holds.held; committed = at.committed }

-- ---- looks

look_told : (G : Guest) (t : TalkState) (w : Witness G t) (d : Database) → StoredAs G t (λ y. y) w d
    → Retold Holds Holds (StoredAs G t (λ y. y)) (StoredAs G t (λ y. y)) w d
look_told G t w d at =
    let (c, held, fit, is) = at.held in
    record {
      content = c;
      holds = held;
      same = λ e k. record { held = (c, k, fit, is); records = at.records };
      made = λ e k. record { held = (c, k, fit, is); records = at.records };
    }

module _ {A : Type 0} (G : Guest) (told : HeldOf G → A → Type 0) (a b : State) (t : TalkState) where
  pub look_well : (x : A) → ServesAs {E = StoreFault} Holds Holds a b (Ok x) → StaysOpen {E = StoreFault} a b (Ok x)
      → (HasCleanDisk b → (n : ℕ) (y : HeldOf G) → IsAtRest G n y a → told y x) → Serves G (making G (λ y. y) told) (with_talk a t) (with_talk b t) (Ok x)
  look_well x p open_still is = record {
    serves = served_so Holds Holds (StoredAs G t (λ y. y)) (StoredAs G t (λ y. y)) (look_told G t) a b (Ok x) p;
    spoke = spoke_none t;
    value = λ honest n y at. is honest.0 n y at;
    fault = tt;
    open_still = open_still;
    plain = tt;
    asked = λ honest n y at. refl;
  }

  pub look_wrong : (s : StoreFault) → ServesAs {X = A} Holds Holds a b (Err s) → StaysOpen {X = A} a b (Err s) → IsOfTables s
      → (HasCleanDisk b → (n : ℕ) (y : HeldOf G) → IsAtRest G n y a → IsOutside s) → Serves {A = A} G (making G (λ y. y) told) (with_talk a t) (with_talk b t) (Err s)
  look_wrong s p open_still plain outside = record {
    serves = served_so Holds Holds (StoredAs G t (λ y. y)) (StoredAs G t (λ y. y)) (look_told G t) {X = A} a b (Err s) p;
    spoke = spoke_none t;
    value = tt;
    fault = λ honest n y at safe. outside_nothing s (outside honest.0 n y at);
    open_still = open_still;
    plain = λ honest n y at. plain_of s plain;
    asked = λ honest n y at. still [] t;
  }

-- ---- the begin of a mount

abbrev pub begun_in : GuestHolding → GuestHolding
begun_in y =
    record { state = record { pairs = y.state.pairs; settings = None; pledged = 0 }; kept = []; lots = []; next_lot = y.next_lot; number = y.number }

cleared_so : (v : MetaValues) (c : GuestContent)
    → holding_in (cleared (record c { counters = rows_of v })) ≡ begun_in (holding_in (record c { counters = rows_of v }))
cleared_so v c = refl

pub cleared_is : (c : GuestContent) → IsFitContent c → holding_in (cleared c) ≡ begun_in (holding_in c)
cleared_is c fit =
    let (v, is) = meta_is c.counters fit.meta.meta in
    let back : record c { counters = rows_of v } ≡ c = ap (λ cs. record c { counters = cs }) (sym is) in
    subst (λ (k : GuestContent). holding_in (cleared k) ≡ begun_in (holding_in k)) back (cleared_so v c)

mount_told : (G : Guest) (t : TalkState) (w : Witness G t) (d : Database) → StoredAs G t (λ y. y) w d
    → Retold IsStored (λ c. IsStored (cleared c)) (StoredAs G t (λ y. y)) (StoredAs G t (λ y. begun y)) w d
mount_told G t w d at =
    let (c, held, fit, is) = at.held in
    record {
      content = c;
      holds = record { holds = held; fit = fit };
      same = λ e k. record { held = (c, k.holds, k.fit, is); records = at.records };
      made = λ e k. record { held = (cleared c, k.holds, k.fit, cleared_is c fit ∙ ap begun_in is); records = tt };
    }

pub mounted : (G : Guest) (a b : State) (t : TalkState) (r : Result (Unit {0}) StoreFault) → ServesAs IsStored (λ c. IsStored (cleared c)) a b r → StaysOpen a b r
    → IfErr r IsOutside → Serves G (making G (λ y. begun y) (λ y x. ⊤)) (with_talk a t) (with_talk b t) r
mounted G a b t (Ok x) p open_still outside = record {
  serves = served_so IsStored (λ c. IsStored (cleared c)) (StoredAs G t (λ y. y)) (StoredAs G t (λ y. begun y)) (mount_told G t) a b (Ok x) p;
  spoke = spoke_none t;
  value = λ honest n y at. tt;
  fault = tt;
  open_still = open_still;
  plain = tt;
  asked = λ honest n y at. refl;
}
mounted G a b t (Err s) p open_still outside = record {
  serves = served_so IsStored (λ c. IsStored (cleared c)) (StoredAs G t (λ y. y)) (StoredAs G t (λ y. begun y)) (mount_told G t) a b (Err s) p;
  spoke = spoke_none t;
  value = tt;
  fault = λ honest n y at safe. outside_nothing s outside;
  open_still = open_still;
  plain = λ honest n y at. outside_plain s outside;
  asked = λ honest n y at. still [] t;
}

-- ---- looks, as their functions return them

pub map_ok : {X F : Type 0} (r : Result X F) (P Q : X → Type 0) → ((x : X) → P x → Q x) → IfOk r P → IfOk r Q
map_ok (Ok x) P Q f p = f x p
map_ok (Err e) P Q f p = tt

pub map_err : {X F : Type 0} (r : Result X F) (P Q : F → Type 0) → ((x : F) → P x → Q x) → IfErr r P → IfErr r Q
map_err (Ok x) P Q f p = tt
map_err (Err e) P Q f p = f e p

module _ {A : Type 0} (G : Guest) (told : HeldOf G → A → Type 0) (a b : State) (t : TalkState) where
  pub look_any : (r : Result A StoreFault) → ServesAs Holds Holds a b r → StaysOpen a b r → IfErr r IsOfTables
      → (HasCleanDisk b → IfOk r (λ x. (n : ℕ) (y : HeldOf G) → IsAtRest G n y a → told y x))
      → (HasCleanDisk b → IfErr r (λ f. (n : ℕ) (y : HeldOf G) → IsAtRest G n y a → IsOutside f))
      → Serves G (making G (λ y. y) told) (with_talk a t) (with_talk b t) r
  look_any (Ok x) p open_still plain is outside = look_well G told a b t x p open_still is
  look_any (Err s) p open_still plain is outside = look_wrong G told a b t s p open_still plain outside

-- outside a transaction the tables hold some content
pub content_at_rest : (G : Guest) (n : ℕ) (y : HeldOf G) (s : State) (at : IsAtRest G n y s) → RestsAs (Holds at.holds.held.0) s
content_at_rest G n y s at = record { is_open = at.is_open; autocommit = at.autocommit; holds = at.holds.held.1; committed = at.committed }

-- nothing is asked
pub rest_none : {A : Type 0} → (G : Guest) (told : HeldOf G → A → Type 0) (a : State) (t : TalkState) (x : A) → ((y : HeldOf G) → AreRecords y.kept → told y x)
    → Serves G (making G (λ y. y) told) (with_talk a t) (with_talk a t) (Ok x)
rest_none G told a t x is = record {
  serves = record {
    survives = same_survives a _;
    kept = tt;
    done = λ clean w at. at;
  };
  spoke = spoke_none t;
  value = λ honest n y at. is y at.holds.records;
  fault = tt;
  open_still = record { was = λ clean is_open. is_open; still = λ clean is_open. is_open };
  plain = tt;
  asked = λ honest n y at. refl;
}

-- ---- two looks

module _ {A B C : Type 0} (G : Guest) (p : HeldOf G → A → Type 0) (q : HeldOf G → B → Type 0) (r : HeldOf G → C → Type 0) (a b d : State) (t : TalkState) (x : A)
    (one : Serves G (making G (λ w. w) p) (with_talk a t) (with_talk b t) (Ok x)) where
  middle : HasCleanDisk b → SaidAll G t → (n : ℕ) (w : HeldOf G) → IsAtRest G n w a → IsAtRest G n w b
  middle clean said n w at = one.serves.done clean (record { number = n; holding = w; said = said }) at

  pub look_then : (y : B) (z : C) → Serves G (making G (λ w. w) q) (with_talk b t) (with_talk d t) (Ok y) → ((w : HeldOf G) → p w x → q w y → r w z)
      → Serves G (making G (λ w. w) r) (with_talk a t) (with_talk d t) (Ok z)
  look_then y z two so = record {
    serves = rests_then (StoredAs G t (λ w. w)) a b d x (Ok z) one.serves (rests_told (StoredAs G t (λ w. w)) b d y (Ok z) two.serves);
    spoke = spoke_none t;
    value = λ honest n w at.
        let clean = earlier b d _ two.serves.survives honest.0 in
        so w (one.value (clean, honest.1) n w at) (two.value honest n w (middle clean honest.1 n w at));
    fault = tt;
    open_still = open_then a b d x (Ok z) one.open_still two.serves.survives (open_told b d y (Ok z) two.open_still);
    plain = tt;
    asked = λ honest n w at. refl;
  }

  pub look_then_fails : (s : StoreFault) → Serves {A = B} G (making G (λ w. w) q) (with_talk b t) (with_talk d t) (Err s)
      → Serves {A = C} G (making G (λ w. w) r) (with_talk a t) (with_talk d t) (Err s)
  look_then_fails s two = record {
    serves = rests_then (StoredAs G t (λ w. w)) a b d x (Err s) one.serves
        (record { survives = two.serves.survives; kept = two.serves.kept; done = tt });
    spoke = spoke_none t;
    value = tt;
    fault = λ honest n w at safe.
        let clean = earlier b d _ two.serves.survives honest.0 in
        two.fault honest n w (middle clean honest.1 n w at) safe;
    open_still = open_then a b d x (Err s) one.open_still two.serves.survives (record { was = two.open_still.was; still = tt });
    plain = λ honest n w at.
        let clean = earlier b d _ two.serves.survives honest.0 in
        two.plain honest n w (middle clean honest.1 n w at);
    asked = λ honest n w at. still [] t;
  }

-- the first one failed
pub look_first_fails : {A C : Type 0} → (G : Guest) (p : HeldOf G → A → Type 0) (r : HeldOf G → C → Type 0) (a b : State) (t : TalkState) (s : StoreFault)
    → Serves {A = A} G (making G (λ w. w) p) (with_talk a t) (with_talk b t) (Err s) → Serves {A = C} G (making G (λ w. w) r) (with_talk a t) (with_talk b t) (Err s)
look_first_fails G p r a b t s one = record {
  serves = record { survives = one.serves.survives; kept = one.serves.kept; done = tt };
  spoke = one.spoke;
  value = tt;
  fault = one.fault;
  open_still = record { was = one.open_still.was; still = tt };
  plain = one.plain;
  asked = one.asked;
}
