-- Statements, as steps on what is held.
use Rattle.std.proofs.Common.{◌≡◌, ◌≤◌, ◌<◌, ◌+◌, ◌^◌, ℕ, List, [], ◌∷◌, not, cond, Bool, true, false, filter, Some, None, option_map, Result, Ok, Err}
use Rattle.std.proofs.Common.{Less, Equal, Greater, refl, sym, ap, subst, arith, ◌∙◌}
use Rattle.std.specs.List.{AllByRecursion}
use Rattle.std.specs.Ordering.{is_eq, nat_cmp, match_ordering}
use Rattle.std.proofs.lemmas.Bool.Decides.{nat_tests}
use Rattle.std.specs.declared.cmp.Ordering.{Ordering}
use Rattle.std.specs.Prelude.{⊤, IfSome}
use Rattle.sqlite.specs.State.{State, HasCleanDisk}
use Rattle.sqlite.specs.declared.error.Error.{Error}
use Rattle.fuse_answer.specs.Said.{FitsAnswer}
use Rattle.fuse_init.specs.declared.settings.Settings.{Settings}
use Rattle.fuse_store_tables.specs.Content.{Kept, kept_key, put_by, without_by, has_by, at_by}
use Rattle.fuse_keeper.specs.Faults.{fault_of, is_memory}
use Rattle.fuse_keeper.specs.declared.fault.StoreFault.{StoreFault}
use Rattle.fuse_keeper.specs.declared.fault.StoreFault.TheVariants.{Memory, Sql, NotAStore, Version, Damaged, Guest as GuestFailed}
use Rattle.fuse_guest.specs.Talk.{Guest}
use Rattle.fuse_store_tables.specs.Faults.{IsOutside, IsPlain as IsOfTables}
use Rattle.fuse_store_tables.specs.Moves.{InsideAs, Takes, Stays}
use Rattle.fuse_store_tables.specs.inner.Following.{earlier, stays_then, inside_then, then_as, taken_from}
use Rattle.guest_tables.specs.Content.{GuestContent, Holds, without_kept, put_kept, with_lot, set_counter, value_at, next_lot_key}
use Rattle.guest_tables.specs.Holding.{GuestHolding, HeldFor, holding_in}
use Rattle.guest_tables.specs.Moves.{Makes, LookedInside}
use Rattle.guest_tables.specs.Opening.{AreRecords, IsFitContent, IsRecord, IsStored}
use Rattle.guest_tables.specs.Settling.{with_settings}
use Rattle.guest_store.specs.Holding.{records_of}
use Rattle.guest_talk.specs.TalkState.{TalkState}
use Rattle.guest_store.specs.StoreState.{HeldOf, StoreState, IsHonest, IsPlain, SaysNothing, held_as}
use Rattle.guest_store.specs.Group.{with_new_lot, with_record}
use Rattle.guest_store.specs.inner.Lotting.{lotting, lotting_next}
use Rattle.guest_store.specs.inner.Stepping.{Effect, Steps, making, with_talk}
use Rattle.guest_store.proofs.Asked.{still}
use Rattle.guest_store.proofs.Stepping.{held_inside, spoke_none, table_ok, table_err}
use Rattle.guest_store.proofs.MetaRows.{MetaValues, rows_of, meta_is, meta_next}

-- a statement, on the holdings that its databases are of
pub made_held : {X E : Type 0} (f : GuestContent → GuestContent) (h : GuestHolding → GuestHolding) (a b : State) (r : Result X E)
    → ((c : GuestContent) → IsFitContent c → IsFitContent (f c) × (holding_in (f c) ≡ h (holding_in c))) → Makes f a b r
    → Takes HeldFor (λ y. HeldFor (h y)) a b r
made_held f h a b (Ok x) so p = record {
  stays = p.stays;
  within = p.within;
  turns = λ clean y at.
      let (c, held, fit, is) = at.holds in
      let now = p.turns clean c (record { is_open = at.is_open; in_transaction = at.in_transaction; holds = held }) in
      let law = so c fit in
      record { is_open = now.is_open; in_transaction = now.in_transaction; holds = (f c, now.holds, law.0, law.1 ∙ ap h is) };
}
made_held f h a b (Err e) so p = record { stays = p.stays; within = tt; turns = tt }

-- ---- rows that come and go

all_cond : {X : Type 0} (P : X → Type 0) (b : Bool) (x : X) (xs : List X) → P x → AllByRecursion P xs → AllByRecursion P (cond b (x ∷ xs) xs)
all_cond P true x xs p all = (p, all)
all_cond P false x xs p all = all

pub all_filter : {X : Type 0} (P : X → Type 0) (test : X → Bool) (xs : List X) → AllByRecursion P xs → AllByRecursion P (filter test xs)
all_filter P test [] all = tt
all_filter P test (x ∷ xs) all = all_cond P (test x) x (filter test xs) all.0 (all_filter P test xs all.1)

module _ {X : Type 0} (key : X → ℕ) (P : X → Type 0) where
  all_put_by : (o : Ordering) (x new : X) (xs more : List X) → P x → P new → AllByRecursion P xs → AllByRecursion P more
      → AllByRecursion P (match_ordering o (x ∷ more) (new ∷ xs) (new ∷ x ∷ xs))
  all_put_by Less x new xs more p q all put = (p, put)
  all_put_by Equal x new xs more p q all put = (q, all)
  all_put_by Greater x new xs more p q all put = (q, (p, all))

  pub all_put : (new : X) (xs : List X) → P new → AllByRecursion P xs → AllByRecursion P (put_by key new xs)
  all_put new [] q all = (q, tt)
  all_put new (x ∷ xs) q all = all_put_by (nat_cmp (key x) (key new)) x new xs (put_by key new xs) all.0 q all.1 (all_put new xs q all.1)

pub all_map : {X : Type 0} (P Q : X → Type 0) (xs : List X) → ((x : X) → P x → Q x) → AllByRecursion P xs → AllByRecursion Q xs
all_map P Q [] f all = tt
all_map P Q (x ∷ xs) f all = (f x all.0, all_map P Q xs f all.1)

-- ---- records

abbrev pub forgot : ℕ → GuestHolding → GuestHolding
forgot id y = record y { kept = without_by kept_key id y.kept }

abbrev pub recorded : Kept → GuestHolding → GuestHolding
recorded k y = record y { kept = put_by kept_key k y.kept }

pub records_forgotten : (id : ℕ) (kept : List Kept) → AreRecords kept → AreRecords (without_by kept_key id kept)
records_forgotten id kept all = all_filter IsRecord (λ k. not (has_by kept_key id k)) kept all

pub records_kept : (k : Kept) (kept : List Kept) → IsRecord k → AreRecords kept → AreRecords (put_by kept_key k kept)
records_kept k kept is all = all_put kept_key IsRecord k kept is all

pub forgets : (id : ℕ) (c : GuestContent) → IsFitContent c → IsFitContent (without_kept id c)
forgets id c fit = record {
  meta = record { version = fit.meta.version; meta = fit.meta.meta; lots = fit.meta.lots };
  records = records_forgotten id c.kept fit.records;
  pairs = fit.pairs;
  apart = fit.apart;
}

pub records : (k : Kept) (c : GuestContent) → IsRecord k → IsFitContent c → IsFitContent (put_kept k c)
records k c is fit = record {
  meta = record { version = fit.meta.version; meta = fit.meta.meta; lots = fit.meta.lots };
  records = records_kept k c.kept is fit.records;
  pairs = fit.pairs;
  apart = fit.apart;
}

-- no record has an id from 2^63 on
differs : (a k : ℕ) → a < 2 ^ 63 → 2 ^ 63 ≤ k → is_eq (nat_cmp a k) ≡ false
differs a k low high = grind (arith, nat_tests)

pub none_forgotten : (id : ℕ) (kept : List Kept) → 2 ^ 63 ≤ id → AreRecords kept → without_by kept_key id kept ≡ kept
none_forgotten id [] high all = refl
none_forgotten id (k ∷ ks) high all =
    ap (λ b. cond (not b) (k ∷ without_by kept_key id ks) (without_by kept_key id ks)) (differs k.id id all.0.id high)
    ∙ ap (λ l. k ∷ l) (none_forgotten id ks high all.1)

pub none_recorded : (id : ℕ) (kept : List Kept) → 2 ^ 63 ≤ id → AreRecords kept → records_of kept id ≡ None
none_recorded id [] high all = refl
none_recorded id (k ∷ ks) high all =
    ap (λ b. option_map (λ x. x.said) (cond b (Some k) (at_by kept_key id ks))) (differs k.id id all.0.id high) ∙ none_recorded id ks high all.1

-- what is found fits
pub found_fits : (id : ℕ) (kept : List Kept) → AreRecords kept → IfSome (at_by kept_key id kept) (λ k. FitsAnswer k.said)
found_fits id [] all = tt
found_fits id (k ∷ ks) all = by (has_by kept_key id k) (found_fits id ks all.1)
  where
    by : (b : Bool) → IfSome (at_by kept_key id ks) (λ x. FitsAnswer x.said) → IfSome (cond b (Some k) (at_by kept_key id ks)) (λ x. FitsAnswer x.said)
    by true rest = all.0.said
    by false rest = rest

-- ---- lots

-- the content with these values in `meta`
abbrev valued : MetaValues → GuestContent → GuestContent
valued v c = record c { counters = rows_of v }

abbrev with_next : GuestContent → GuestContent
with_next c = set_counter next_lot_key (value_at next_lot_key c + 1) (with_lot (value_at next_lot_key c) c)

abbrev pub with_next_lot : GuestHolding → GuestHolding
with_next_lot y = record y { lots = put_by (λ n. n) y.next_lot y.lots; next_lot = y.next_lot + 1 }

low_next : (n : ℕ) → n < 2 ^ 62 → n + 1 ≤ 4611686018427387904
low_next n low = omega (arith, low)

next_so : (v : MetaValues) (c : GuestContent) → v.next_lot < 2 ^ 62 → IsFitContent (valued v c)
    → IsFitContent (with_next (valued v c)) × (holding_in (with_next (valued v c)) ≡ with_next_lot (holding_in (valued v c)))
next_so v c low fit = (
  record {
    meta = record {
      version = fit.meta.version;
      meta = meta_next v (v.next_lot + 1) (low_next v.next_lot low) fit.meta.meta;
      lots = all_put (λ n. n) (λ n. n < v.next_lot + 1) v.next_lot c.lots (omega arith)
          (all_map (λ n. n < v.next_lot) (λ n. n < v.next_lot + 1) c.lots (λ n below. omega (arith, below)) fit.meta.lots);
    };
    records = fit.records;
    pairs = fit.pairs;
    apart = fit.apart;
  },
  refl,
)

-- the content is the one with the values of its rows
same_rows : (c : GuestContent) (v : MetaValues) → c.counters ≡ rows_of v → valued v c ≡ c
same_rows c v is = ap (λ cs. record c { counters = cs }) (sym is)

pub lot_taken : (c : GuestContent) → value_at next_lot_key c < 2 ^ 62 → IsFitContent c
    → IsFitContent (with_next c) × (holding_in (with_next c) ≡ with_next_lot (holding_in c))
lot_taken c low fit =
    let (v, is) = meta_is c.counters fit.meta.meta in
    let back : valued v c ≡ c = same_rows c v is in
    subst (λ (k : GuestContent). IsFitContent (with_next k) × (holding_in (with_next k) ≡ with_next_lot (holding_in k))) back
    (next_so v c (subst (λ (k : GuestContent). value_at next_lot_key k < 2 ^ 62) (sym back) low) (subst IsFitContent (sym back) fit))

-- ---- the settings

abbrev pub with_agreed : Settings → ℕ → GuestHolding → GuestHolding
with_agreed s pledged y = record y { state = record y.state { settings = Some s; pledged = pledged } }

agreed_so : (s : Settings) (pledged : ℕ) (v : MetaValues) (c : GuestContent)
    → holding_in (with_settings s pledged (valued v c)) ≡ with_agreed s pledged (holding_in (valued v c))
agreed_so s pledged v c = refl

pub settings_agreed : (s : Settings) (pledged : ℕ) (c : GuestContent) → IsFitContent c
    → holding_in (with_settings s pledged c) ≡ with_agreed s pledged (holding_in c)
settings_agreed s pledged c fit =
    let (v, is) = meta_is c.counters fit.meta.meta in
    subst (λ (k : GuestContent). holding_in (with_settings s pledged k) ≡ with_agreed s pledged (holding_in k)) (same_rows c v is) (agreed_so s pledged v c)

-- ---- what statements fail with

pub outside_nothing : (s : StoreFault) → IsOutside s → SaysNothing s
outside_nothing Memory is = tt
outside_nothing (Sql e) is = tt
outside_nothing NotAStore is = absurd is
outside_nothing (Version v) is = absurd is
outside_nothing Damaged is = absurd is
outside_nothing GuestFailed is = absurd is

pub outside_plain : (s : StoreFault) → IsOutside s → IsPlain s
outside_plain Memory is = tt
outside_plain (Sql e) is = tt
outside_plain NotAStore is = absurd is
outside_plain (Version v) is = absurd is
outside_plain Damaged is = absurd is
outside_plain GuestFailed is = absurd is

-- a fault of the tables is one of a call
pub plain_of : (s : StoreFault) → IsOfTables s → IsPlain s
plain_of Memory is = tt
plain_of (Sql e) is = tt
plain_of NotAStore is = absurd is
plain_of (Version v) is = absurd is
plain_of Damaged is = tt
plain_of GuestFailed is = absurd is

-- the fault of a statement
pub outside_of : (e : Error) (s : StoreFault) → s ≡ fault_of e → IsOutside s
outside_of e s is = subst IsOutside (sym is) (by (is_memory e))
  where
    by : (b : Bool) → IsOutside (cond b Memory (Sql e))
    by true = tt
    by false = tt

-- a statement that failed
pub statement_err : {A : Type 0} → (G : Guest) (e : Effect G A) (a b : State) (t : TalkState) (error : Error) (s : StoreFault) → s ≡ fault_of error → Stays a b
    → Steps {A = A} G e (with_talk a t) (with_talk b t) (Err s)
statement_err G e a b t error s is keeps =
    let outside = outside_of error s is in
    table_err G e a b t s keeps (outside_nothing s outside) (outside_plain s outside)

-- a look that failed
pub look_err : {A : Type 0} → (G : Guest) (e : Effect G A) (a b : State) (t : TalkState) (s : StoreFault) → Stays a b → IsOfTables s
    → (HasCleanDisk b → (y : GuestHolding) → InsideAs (HeldFor y) a → IsOutside s) → Steps {A = A} G e (with_talk a t) (with_talk b t) (Err s)
look_err G e a b t s keeps plain outside = record {
  takes = record { stays = keeps; within = tt; turns = tt };
  spoke = spoke_none t;
  value = tt;
  fault = λ honest n y at is. outside_nothing s (outside honest.0 (held_as G n y) (held_inside G n y a at));
  plain = λ honest n y at. plain_of s plain;
  asked = λ honest n y at. still (e.asks y) t;
}

-- a look, and what it found
pub looked_held : {E X : Type 0} → (a b : State) (x : X) → LookedInside a b → Takes {E = E} HeldFor (λ y. HeldFor y) a b (Ok x)
looked_held a b x p = record {
  stays = p.stays;
  within = p.within;
  turns = λ clean y at.
      let (c, held, fit, is) = at.holds in
      let now = p.same clean c (record { is_open = at.is_open; in_transaction = at.in_transaction; holds = held }) in
      record { is_open = now.is_open; in_transaction = now.in_transaction; holds = (c, now.holds, fit, is) };
}

pub look_ok : {A : Type 0} → (G : Guest) (told : HeldOf G → A → Type 0) (a b : State) (t : TalkState) (x : A) → LookedInside a b
    → (IsHonest G (with_talk b t) → (n : ℕ) (y : HeldOf G) → InsideAs (HeldFor (held_as G n y)) a → told y x)
    → Steps G (making G (λ y. y) told) (with_talk a t) (with_talk b t) (Ok x)
look_ok {A} G told a b t x p is =
    let all : Steps G (making G (λ y. y) (λ (y : HeldOf G) (z : A). ⊤)) (with_talk a t) (with_talk b t) (Ok x) =
    table_ok G (λ y. y) (making G (λ y. y) (λ (y : HeldOf G) (z : A). ⊤)) a b t x (looked_held {E = StoreFault} a b x p) (λ n y. refl) (λ y right. right)
    (λ y. tt) (λ y. refl) in
    record {
      takes = all.takes;
      spoke = all.spoke;
      value = λ honest n y at. is honest n y (held_inside G n y a at);
      fault = tt;
      plain = tt;
      asked = λ honest n y at. refl;
    }

-- ---- a lot that is allocated

pub lot_stored : {X Z : Type 0} → (lot : ℕ) (a b d : State) (x : X) (z : Z) → lot < 2 ^ 62 → LookedInside a b
    → (HasCleanDisk b → (y : GuestHolding) → InsideAs (HeldFor y) a → lot ≡ y.next_lot)
    → Makes {E = Error} (λ c. set_counter next_lot_key (lot + 1) (with_lot lot c)) b d (Ok x) → Takes {E = StoreFault} HeldFor (λ y. HeldFor (with_next_lot y)) a d (Ok z)
lot_stored lot a b d x z low looked value p = record {
  stays = stays_then a b d looked.stays looked.within p.stays;
  within = inside_then a b d looked.within p.stays.survives p.within;
  turns = λ clean y at.
      let mid = earlier b d _ p.stays.survives clean in
      let (c, held, fit, is) = at.holds in
      let same : lot ≡ value_at next_lot_key c = value mid y at ∙ sym (ap (λ (h : GuestHolding). h.next_lot) is) in
      let now = p.turns clean c (looked.same mid c (record { is_open = at.is_open; in_transaction = at.in_transaction; holds = held })) in
      let law = lot_taken c (subst (λ n. n < 2 ^ 62) same low) fit in
      record {
        is_open = now.is_open;
        in_transaction = now.in_transaction;
        holds = (
          with_next c,
          subst (λ n. Holds (set_counter next_lot_key (n + 1) (with_lot n c)) d.now) same now.holds,
          law.0,
          law.1 ∙ ap with_next_lot is,
        );
      };
}

-- one statement after another
pub makes_then : {X Y E F : Type 0} (f g : GuestContent → GuestContent) (a b d : State) (x : X) (r : Result Y F) → Makes {X = X} {E = E} f a b (Ok x) → Makes g b d r
    → Makes (λ c. g (f c)) a d r
makes_then f g a b d x r p q = then_as Holds (λ c. Holds (f c)) (λ c. Holds (g (f c))) a b d x r p (taken_from Holds (λ c. Holds (g c)) f b d r q)

pub lot_step : {X : Type 0} → (G : Guest) (lot : ℕ) (a b d : State) (t : TalkState) (x : X) → lot < 2 ^ 62 → LookedInside a b
    → (HasCleanDisk b → (y : GuestHolding) → InsideAs (HeldFor y) a → lot ≡ y.next_lot)
    → Makes {E = Error} (λ c. set_counter next_lot_key (lot + 1) (with_lot lot c)) b d (Ok x) → Steps G (lotting_next G) (with_talk a t) (with_talk d t) (Ok lot)
lot_step G lot a b d t x low looked value p =
    let e : Effect G ℕ = making G (λ y. with_new_lot y) (λ y n. ⊤) in
    let all : Steps G e (with_talk a t) (with_talk d t) (Ok lot) =
    table_ok G with_next_lot e a d t lot (lot_stored lot a b d x lot low looked value p) (λ n y. refl) (λ y right. right) (λ y. tt) (λ y. refl) in
    record {
      takes = all.takes;
      spoke = all.spoke;
      value = λ honest n y at. value (earlier b d _ p.stays.survives honest.0) (held_as G n y) (held_inside G n y a at);
      fault = tt;
      plain = tt;
      asked = λ honest n y at. refl;
    }

-- no number is left
pub lots_end : (G : Guest) (lot : ℕ) (a b : State) (t : TalkState) → 2 ^ 62 ≤ lot → LookedInside a b
    → (HasCleanDisk b → (y : GuestHolding) → InsideAs (HeldFor y) a → lot ≡ y.next_lot)
    → Steps {A = ℕ} G (lotting_next G) (with_talk a t) (with_talk b t) (Err Damaged)
lots_end G lot a b t high looked value = record {
  takes = record { stays = looked.stays; within = tt; turns = tt };
  spoke = spoke_none t;
  value = tt;
  fault = λ honest n y at low. absurd (let same = value honest.0 (held_as G n y) (held_inside G n y a at) in omega (arith, same, low, high));
  plain = λ honest n y at. tt;
  asked = λ honest n y at. still [] t;
}

-- where this opening had none
pub lot_none : (G : Guest) (a b : StoreState) (r : Result ℕ StoreFault) → Steps G (lotting_next G) a b r → Steps G (lotting G None) a b r
lot_none G a b (Ok n) p = record { takes = p.takes; spoke = p.spoke; value = p.value; fault = tt; plain = tt; asked = p.asked }
lot_none G a b (Err s) p = record {
  takes = record { stays = p.takes.stays; within = tt; turns = tt };
  spoke = p.spoke;
  value = tt;
  fault = λ honest n y at left. p.fault honest n y at (left refl);
  plain = p.plain;
  asked = p.asked;
}

-- ---- other steps, as their functions return them

pub record_step : {E X : Type 0} → (G : Guest) (k : Kept) (a b : State) (t : TalkState) (x : X) → IsRecord k → Makes {E = E} (put_kept k) a b (Ok x)
    → Steps G (making G (λ y. with_record k.id k.lot k.said y) (λ y (r : X). ⊤)) (with_talk a t) (with_talk b t) (Ok x)
record_step G k a b t x is p =
    table_ok G (recorded k) (making G (λ y. with_record k.id k.lot k.said y) (λ y r. ⊤)) a b t x
    (made_held (put_kept k) (recorded k) a b (Ok x) (λ c fit. (records k c is fit, refl)) p) (λ n y. refl) (λ y right. records_kept k y.kept is right)
    (λ y. tt) (λ y. refl)

-- ---- the settings are agreed on

pub settings_step : {E X : Type 0} → (G : Guest) (s : Settings) (pledged : ℕ) (a b : State) (t : TalkState) (x : X)
    → Takes {E = E} IsStored (λ c. IsStored (with_settings s pledged c)) a b (Ok x)
    → Steps G (making G (λ y. record y { state = record y.state { settings = Some s; pledged = pledged } }) (λ y (r : X). ⊤)) (with_talk a t) (with_talk b t) (Ok x)
settings_step {E} {X} G s pledged a b t x p =
    table_ok {E = E} G (with_agreed s pledged) (making G (λ y. record y { state = record y.state { settings = Some s; pledged = pledged } }) (λ y (r : X). ⊤)) a b t x
    (record {
      stays = p.stays;
      within = p.within;
      turns = λ clean y at.
          let (c, held, fit, is) = at.holds in
          let now = p.turns clean c (record { is_open = at.is_open; in_transaction = at.in_transaction; holds = record { holds = held; fit = fit } }) in
          record {
            is_open = now.is_open;
            in_transaction = now.in_transaction;
            holds = (with_settings s pledged c, now.holds.holds, now.holds.fit, settings_agreed s pledged c fit ∙ ap (with_agreed s pledged) is);
          };
    })
    (λ n y. refl) (λ y right. right) (λ y. tt) (λ y. refl)

-- a look for a record that failed
pub found_err : {A : Type 0} → (G : Guest) (e : Effect G A) (a b : State) (t : TalkState) (id : ℕ) (s : StoreFault) → Stays a b → IsOfTables s
    → (HasCleanDisk b → (y : GuestHolding) → InsideAs (HeldFor y) a → IfSome (at_by kept_key id y.kept) (λ k. FitsAnswer k.said) → IsOutside s)
    → Steps {A = A} G e (with_talk a t) (with_talk b t) (Err s)
found_err G e a b t id s keeps plain outside = record {
  takes = record { stays = keeps; within = tt; turns = tt };
  spoke = spoke_none t;
  value = tt;
  fault = λ honest n y at is. outside_nothing s (outside honest.0 (held_as G n y) (held_inside G n y a at) (found_fits id y.kept at.holds.records));
  plain = λ honest n y at. plain_of s plain;
  asked = λ honest n y at. still (e.asks y) t;
}
