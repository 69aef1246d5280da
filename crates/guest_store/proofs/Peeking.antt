-- A look at what a keeper of a guest holds, and a fault of any call.
use Rattle.std.proofs.Common.{◌≡◌, ◌≢◌, ◌≤◌, ◌⊎◌, ◌^◌, ℕ, Bool, true, false, Option, Some, None, Ok, Err, Result, inl, inr, refl, sym, ap, subst, IsTrue}
use Rattle.std.proofs.lemmas.Bool.{cases_lt}
use Rattle.std.specs.Prelude.{◌||◌}
use Rattle.sqlite.specs.Tree.{Trees}
use Rattle.sqlite.specs.State.{State}
use Rattle.fuse_keeper.specs.Stands.{Records}
use Rattle.fuse_keeper.specs.KeeperState.{Called, Looked, AnswersNoMore}
use Rattle.fuse_keeper.specs.declared.fault.StoreFault.{StoreFault}
use Rattle.fuse_keeper.specs.declared.fault.StoreFault.TheVariants.{Memory, Sql, NotAStore, Version, Damaged, Guest as GuestFailed}
use Rattle.fuse_guest.specs.Talk.{Guest}
use Rattle.fuse_guest.specs.Service.{service_of}
use Rattle.fuse_guest.specs.GuestModel.{GuestState}
use Rattle.fuse_store_tables.specs.Content.{LeftAs}
use Rattle.guest_tables.specs.Reading.{HoldingsAreRead}
use Rattle.guest_store.specs.Holding.{lots_of}
use Rattle.guest_store.specs.Group.{HasLotLeft}
use Rattle.guest_store.specs.StoreState.{HeldOf, StoreState, IsHonest, IsAtRest, IsPlain, StoredFor, ServesStore, StaysUsable, SaysNothing}
use Rattle.guest_store.specs.TableState.{IsOf, HoldsIn, LeavesWhole, MayLeave, MayAnswer, lots_in, guest_told}
use Rattle.guest_store.proofs.Serving.{one_left, kept_held, holds_at, lots_same, same_both}

or_true : (b : Bool) → (b || true) ≡ true
or_true true = refl
or_true false = refl

or_false : (b : Bool) → (b || false) ≡ b
or_false true = refl
or_false false = refl

-- ---- any call

-- where it held something, the fault is one that it may answer
abbrev pub MayWhere : Guest → Option ℕ → StoreState → StoreState → StoreFault → Type 0
MayWhere G lot a b e = IsHonest G b → (n : ℕ) (y : HeldOf G) → IsAtRest G n y a.tables → MayAnswer G lot a.tables e

nothing_may : (G : Guest) (lot : Option ℕ) (s : State) (e : StoreFault) → SaysNothing e → MayAnswer G lot s e
nothing_may G lot s Memory is = tt
nothing_may G lot s (Sql e) is = tt
nothing_may G lot s GuestFailed is = tt
nothing_may G lot s NotAStore is = absurd is
nothing_may G lot s (Version n) is = absurd is
nothing_may G lot s Damaged is = absurd is

pub may_where : (G : Guest) (lot : Option ℕ) (a b : StoreState) (e : StoreFault)
    → (IsHonest G b → (n : ℕ) (y : HeldOf G) → IsAtRest G n y a.tables → SaysNothing e) → MayWhere G lot a b e
may_where G lot a b e safe clean n y at = nothing_may G lot a.tables e (safe clean n y at)

-- a lot is left, or none was taken and no number is left
is_left : (G : Guest) (lot : Option ℕ) (y : HeldOf G) → HasLotLeft lot y ⊎ ((lot ≡ None) × (2 ^ 62 ≤ y.next_lot))
is_left G (Some n) y = inl (λ none. absurd cc)
is_left G None y = elim (cases_lt y.next_lot (2 ^ 62)) [
  | inl low ↦ inl (λ none. low)
  | inr high ↦ inr (refl, high)
]

-- the fault of a group: where a lot is left it says nothing of the store
pub lot_may : HoldingsAreRead → (G : Guest) (lot : Option ℕ) (a b : StoreState) (e : StoreFault)
    → (IsHonest G b → (n : ℕ) (y : HeldOf G) → IsAtRest G n y a.tables → IsPlain e)
    → (IsHonest G b → (n : ℕ) (y : HeldOf G) → IsAtRest G n y a.tables → HasLotLeft lot y → SaysNothing e) → MayWhere G lot a b e
lot_may read G lot a b Memory plain safe clean n y at = tt
lot_may read G lot a b (Sql e) plain safe clean n y at = tt
lot_may read G lot a b GuestFailed plain safe clean n y at = tt
lot_may read G lot a b NotAStore plain safe clean n y at = absurd (plain clean n y at)
lot_may read G lot a b (Version v) plain safe clean n y at = absurd (plain clean n y at)
lot_may read G lot a b Damaged plain safe clean n y at = elim (is_left G lot y) [
  | inl left ↦ absurd (safe clean n y at left)
  | inr used ↦ record {
    usable = at.is_open;
    none = used.0;
    used_up = λ m z there. subst (λ (w : HeldOf G). 2 ^ 62 ≤ w.next_lot)
        (one_left read G n m y z a.tables.now.trees (a.tables.now, at.holds, refl) (a.tables.now, there.holds, refl)) used.1;
  }
]

-- what may be answered later could be answered before
still_may : (G : Guest) (lot : Option ℕ) (a b : State) → (IsTrue b.is_open → IsTrue a.is_open)
    → (IsTrue b.is_open → (n : ℕ) (y : HeldOf G) → IsAtRest G n y a → IsAtRest G n y b) → (f : StoreFault) → MayAnswer G lot b f → MayAnswer G lot a f
still_may G lot a b was kept Memory may = tt
still_may G lot a b was kept (Sql e) may = tt
still_may G lot a b was kept GuestFailed may = tt
still_may G lot a b was kept NotAStore may = absurd may
still_may G lot a b was kept (Version v) may = absurd may
still_may G lot a b was kept Damaged may =
    record { usable = was may.usable; none = may.none; used_up = λ n y at. may.used_up n y (kept may.usable n y at) }

-- with a lot, damage is no answer
lotted_may : (G : Guest) (now lot : Option ℕ) (a b : State) (f : StoreFault) → now ≢ None → MayAnswer G now b f → MayAnswer G lot a f
lotted_may G now lot a b Memory some may = tt
lotted_may G now lot a b (Sql e) some may = tt
lotted_may G now lot a b GuestFailed some may = tt
lotted_may G now lot a b NotAStore some may = absurd may
lotted_may G now lot a b (Version v) some may = absurd may
lotted_may G now lot a b Damaged some may = absurd (some may.none)

-- a call that changes nothing, or has a lot then
pub took_may : {X : Type 0} → (G : Guest) (f : HeldOf G → HeldOf G) (nothing : Bool) (now lot : Option ℕ) (a b : StoreState) (x : X)
    → (nothing ≡ true → (now ≡ lot) × (IsHonest G b → (y : HeldOf G) → f y ≡ y)) → (nothing ≡ false → now ≢ None)
    → ServesStore G f a b (Ok x) → StaysUsable {X = X} a b (Ok x) → (was is : Bool) → AnswersNoMore (guest_told G a lot was) (guest_told G b now is)
took_may G f false now lot a b x same some serves stays was is clean fault may = lotted_may G now lot a.tables b.tables fault (some refl) may
took_may G f true now lot a b x same some serves stays was is clean fault may =
    still_may G lot a.tables b.tables (stays.was clean.0)
    (λ usable n y at. subst (λ (z : HeldOf G). IsAtRest G n z b.tables) ((same refl).1 clean y) (serves.done clean n y at)) fault
    (subst (λ (o : Option ℕ). MayAnswer G o b.tables fault) (same refl).0 may)

pub failed_may : {X : Type 0} → (G : Guest) (f : HeldOf G → HeldOf G) (a b : StoreState) (e : StoreFault) → ServesStore {X = X} G f a b (Err e)
    → StaysUsable {X = X} a b (Err e) → (lot : Option ℕ) (was is : Bool) → AnswersNoMore (guest_told G a lot was) (guest_told G b lot is)
failed_may G f a b e serves stays lot was is clean fault may =
    still_may G lot a.tables b.tables (stays.was clean.0) (λ usable n y at. serves.kept clean usable n y at) fault may

-- a mount that began has no lot, and where none was taken before, no more is answered
pub begun_may : {X : Type 0} → (G : Guest) (f : HeldOf G → HeldOf G) (a b : StoreState) (x : X) → ((y : HeldOf G) → (f y).next_lot ≡ y.next_lot)
    → ServesStore G f a b (Ok x) → StaysUsable {X = X} a b (Ok x) → (lot now : Option ℕ) (was is : Bool) → lot ≡ None
    → AnswersNoMore (guest_told G a lot was) (guest_told G b now is)
begun_may G f a b x same serves stays lot now was is none clean Memory may = tt
begun_may G f a b x same serves stays lot now was is none clean (Sql e) may = tt
begun_may G f a b x same serves stays lot now was is none clean GuestFailed may = tt
begun_may G f a b x same serves stays lot now was is none clean NotAStore may = absurd may
begun_may G f a b x same serves stays lot now was is none clean (Version v) may = absurd may
begun_may G f a b x same serves stays lot now was is none clean Damaged may = record {
  usable = stays.was clean.0 may.usable;
  none = none;
  used_up = λ n y at. subst (λ k. 2 ^ 62 ≤ k) (same y) (may.used_up n (f y) (serves.done clean n y at));
}

pub went_well : {A X : Type 0} → (G : Guest) (f : HeldOf G → HeldOf G) (a b : StoreState) (x : X) (y : A) → ServesStore G f a b (Ok x)
    → StaysUsable {X = X} a b (Ok x) → (lot now : Option ℕ) (failed : Bool)
    → Called {A = A} (guest_told G a lot failed) (guest_told G b now failed) (Ok y)
went_well G f a b x y serves stays lot now failed = record {
  failed = sym (or_false failed);
  honest = serves.honest;
  medium = λ memory. memory;
  service = ap service_of serves.ready;
  clean = λ was clean. (clean, stays.still clean.0 was.1);
  err = tt;
  err_lots = tt;
  fault = λ clean s h t so. tt;
}

pub went_wrong : {A X : Type 0} → HoldingsAreRead → (G : Guest) (f : HeldOf G → HeldOf G) (a b : StoreState) (e : StoreFault)
    → ServesStore {X = X} G f a b (Err e) → (lot : Option ℕ) → MayWhere G lot a b e → (failed : Bool)
    → Called {A = A} (guest_told G a lot failed) (guest_told G b lot true) (Err e)
went_wrong read G f a b e serves lot may failed = record {
  failed = sym (or_true failed);
  honest = serves.honest;
  medium = λ memory. memory;
  service = ap service_of serves.ready;
  clean = tt;
  err = λ clean rows records at. kept_held read G f a b e rows records serves clean.0 clean.1 at;
  err_lots = λ clean rows records at.
      let n = at.number in
      let y = at.holding in
      same_both (lots_of lot y) (lots_in lot a.tables.now) (lots_in lot b.tables.now) (lots_same read G lot n y a.tables.now at.rests.holds)
      (lots_same read G lot n y b.tables.now (serves.kept clean.0 clean.1 n y at.rests).holds);
  fault = λ clean s h t so. may clean.0 so.held.number so.held.holding so.held.rests;
}

-- ---- a look

module _ (read : HoldingsAreRead) (G : Guest) (a b : StoreState) (stays : IsTrue a.tables.is_open → a.tables.may_leave a.tables.committed.trees) {X : Type 0} (r : Result X StoreFault)
    (serves : ServesStore G (λ y. y) a b r) where
  -- what a crash may leave after it
  left_same : (n : ℕ) (y : HeldOf G) → IsAtRest G n y a.tables → IsHonest G b → (db : Trees) → b.tables.may_leave db → LeftAs (StoredFor G n y) db
  left_same n y rests clean db may = elim (serves.crash clean n y rests db may) [
    | inl old ↦ old
    | inr new ↦ new
  ]

  whole_still : (rows : GuestState) (records : Records) → HoldsIn G a.tables rows records → LeavesWhole G b
  whole_still rows records at clean db may =
      record { number = at.number; holding = at.holding; left = left_same at.number at.holding at.rests clean db may }

  -- it might have left that before
  left_before : (x : GuestState) (q : Records) (rows : GuestState) (records : Records) → HoldsIn G a.tables rows records → MayLeave G b x q → MayLeave G a x q
  left_before x q rows records at left =
      let y = at.holding in
      let same = one_left read G left.some.number at.number left.some.holding y left.trees left.some.left
      (left_same at.number y at.rests left.clean left.trees left.may) in
      record {
        clean = serves.honest left.clean;
        trees = a.tables.committed.trees;
        may = stays at.rests.is_open;
        some = record { number = at.number; holding = y; left = (a.tables.now, at.rests.holds, sym (ap (λ d. d.trees) at.rests.committed)) };
        is_of = subst (λ (z : HeldOf G). IsOf G z x q) same left.is_of;
      }

-- a call that changes nothing
pub seen_well : {A X : Type 0} → HoldingsAreRead → (G : Guest) (a b : StoreState) → (IsTrue a.tables.is_open → a.tables.may_leave a.tables.committed.trees) → (x : X) (y : A)
    → ServesStore G (λ y. y) a b (Ok x) → StaysUsable {X = X} a b (Ok x) → (lot : Option ℕ) (failed : Bool)
    → Looked {A = A} (guest_told G a lot failed) (guest_told G b lot failed) (Ok y)
seen_well read G a b stays x y serves connection lot failed = record {
  called = went_well G (λ z. z) a b x y serves connection lot lot failed;
  may = λ clean f is. still_may G lot a.tables b.tables (connection.was clean.0) (λ usable n y at. serves.done clean n y at) f is;
  same = λ clean rows records at. holds_at read G b.tables at.number at.holding rows records (serves.done clean at.number at.holding at.rests) at.is_of;
  lots = λ clean rows records at.
      let n = at.number in
      let z = at.holding in
      same_both (lots_of lot z) (lots_in lot a.tables.now) (lots_in lot b.tables.now) (lots_same read G lot n z a.tables.now at.rests.holds)
      (lots_same read G lot n z b.tables.now (serves.done clean n z at.rests).holds);
  whole = λ rows records at was. whole_still read G a b stays (Ok x) serves rows records at;
  crash = λ x' q rows records at left. left_before read G a b stays (Ok x) serves x' q rows records at left;
}

pub seen_wrong : {A X : Type 0} → HoldingsAreRead → (G : Guest) (a b : StoreState) → (IsTrue a.tables.is_open → a.tables.may_leave a.tables.committed.trees) → (e : StoreFault)
    → ServesStore {X = X} G (λ y. y) a b (Err e) → StaysUsable {X = X} a b (Err e) → (lot : Option ℕ) → MayWhere G lot a b e → (failed : Bool)
    → Looked {A = A} (guest_told G a lot failed) (guest_told G b lot true) (Err e)
seen_wrong {X = X} read G a b stays e serves connection lot may failed = record {
  called = went_wrong read G (λ z. z) a b e serves lot may failed;
  may = failed_may G (λ z. z) a b e serves connection lot failed true;
  same = tt;
  lots = tt;
  whole = λ rows records at was. whole_still read G a b stays {X = X} (Err e) serves rows records at;
  crash = λ x' q rows records at left. left_before read G a b stays {X = X} (Err e) serves x' q rows records at left;
}
