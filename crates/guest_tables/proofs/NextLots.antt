-- The next lot is taken.
use Rattle.std.proofs.Common.{◌≡◌, ◌≤◌, ◌<◌, ◌^◌, ◌+◌, ℕ, pos, List, [], ◌∷◌, map, length, slice_index_or, slice_get, Option, Some, None, cond, Less, Equal, Greater, Ok, Err, Result, IfOk, IfErr}
use Rattle.std.proofs.Common.{refl, sym, ap, subst, arith, unwrap_or, option_map, inl, inr, ◌∙◌}
use Rattle.std.specs.Int.{w64, cast_signed}
use Rattle.std.specs.List.{AllByRecursion, find}
use Rattle.std.specs.Ordering.{is_eq, nat_cmp, match_ordering}
use Rattle.std.specs.declared.cmp.Ordering.{Ordering}
use Rattle.std.proofs.lemmas.Bool.{cases_Bool}
use Rattle.std.proofs.lemmas.Bool.Decides.{nat_tests}
use Rattle.std.proofs.lemmas.Int.{to_z_pos}
use Rattle.sqlite.specs.declared.types.Value.TheVariants.{Int}
use Rattle.sqlite.specs.Order.{Row, column}
use Rattle.sqlite.specs.State.{State, HasCleanDisk}
use Rattle.fuse_store_tables.specs.Content.{Counter, counter_key, has_by, at_by, set_by, put_by, valued}
use Rattle.std.specs.Result.{IsErr}
use Rattle.std.proofs.Common.{IsErrAnd}
use Rattle.sqlite.specs.declared.error.Error.{Error}
use Rattle.fuse_keeper.specs.declared.fault.StoreFault.{StoreFault}
use Rattle.fuse_keeper.specs.declared.fault.StoreFault.TheVariants.{Damaged}
use Rattle.fuse_keeper.specs.Faults.{fault_of}
use Rattle.fuse_store_tables.specs.Faults.{IsOutside}
use Rattle.guest_tables.proofs.any_schema.Joining.{outside}
use Rattle.fuse_store_tables.specs.Moves.{InsideAs, Takes, Stays}
use Rattle.fuse_store_tables.specs.Opening.{AllBelow}
use Rattle.fuse_store_tables.specs.inner.Following.{earlier, inside_then, stays_then}
use Rattle.guest_tables.specs.Content.{GuestContent, Holds, set_counter, shown_counter, value_at, with_lot, with_next_lot}
use Rattle.guest_tables.specs.Moves.{Makes, LookedInside}
use Rattle.guest_tables.specs.Opening.{IsMeta, IsMetaOf, IsFitContent, IsStored, meta_keys}
use Rattle.guest_tables.specs.inner.Checking.{IsMetaIn}
use Rattle.guest_tables.specs.inner.Columns.{shown_meta}
use Rattle.std.proofs.lemmas.List.{length-map}
use Rattle.guest_tables.proofs.MetaLemmas.{meta_set, find_set, lot_row, meta_length}

-- ---- a content with it

below_more : (lots : List ℕ) (n : ℕ) → AllBelow (λ lot. lot) n lots → AllBelow (λ lot. lot) (n + 1) lots
below_more [] n all = tt
below_more (x ∷ xs) n all = (omega (arith, all.0), below_more xs n all.1)

put_below : (lots : List ℕ) (n : ℕ) → AllBelow (λ lot. lot) n lots → AllBelow (λ lot. lot) (n + 1) (put_by (λ lot. lot) n lots)
put_below [] n all = (omega arith, tt)
put_below (x ∷ xs) n all =
    let same : nat_cmp x n ≡ Less = (let low = all.0 in grind (arith, nat_tests, low)) in
    subst (λ o. AllBelow (λ lot. lot) (n + 1) (match_ordering o (x ∷ put_by (λ lot. lot) n xs) (n ∷ xs) (n ∷ x ∷ xs))) (sym same)
    (omega (arith, all.0), put_below xs n all.1)

pub found_set : (key v : ℕ) (cs : List Counter) (x : Counter) → at_by counter_key key cs ≡ Some x
    → at_by counter_key key (set_by counter_key key (valued v) cs) ≡ Some (valued v x)
found_set key v [] x found = absurd cc
found_set key v (c ∷ cs) x found =
    let rest = set_by counter_key key (valued v) cs in
    elim (cases_Bool (has_by counter_key key c)) [
      | inl here ↦
          let is : ◌≡◌ {A = Option Counter} (Some c) (Some x) = rw here at found in
          ap (λ b. find (has_by counter_key key) (cond b (valued v c) c ∷ rest)) here
          ∙ ap (λ b. cond b (Some (valued v c)) (find (has_by counter_key key) rest)) here
          ∙ ap (λ (o : Option Counter). option_map (valued v) o) is
      | inr not_here ↦
          ap (λ b. find (has_by counter_key key) (cond b (valued v c) c ∷ rest)) not_here
          ∙ ap (λ b. cond b (Some c) (find (has_by counter_key key) rest)) not_here
          ∙ found_set key v cs x (rw not_here at found)
    ]

lot_there : (cs : List Counter) → IsMetaOf meta_keys cs → (x : Counter) × (at_by counter_key 11 cs ≡ Some x)
lot_there [] m = absurd m
lot_there (a ∷ []) m = absurd m.2
lot_there (a ∷ b ∷ []) m = absurd m.2.2
lot_there (a ∷ b ∷ c ∷ []) m = absurd m.2.2.2
lot_there (a ∷ b ∷ c ∷ e ∷ []) m = absurd m.2.2.2.2
lot_there (a ∷ b ∷ c ∷ e ∷ f ∷ cs) m = (f, rw (m.0, m.2.0, m.2.2.0, m.2.2.2.0, m.2.2.2.2.0) refl)

value_now : (v : ℕ) (c : GuestContent) → IsMeta c → value_at 11 (set_counter 11 v c) ≡ v
value_now v c meta =
    let x = lot_there c.counters meta in
    ap (λ o. unwrap_or (option_map (λ (y : Counter). y.value) o) 0) (found_set 11 v c.counters x.0 x.1)

pub fit_next : (c : GuestContent) → value_at 11 c < 2 ^ 62 → IsFitContent c → IsFitContent (with_next_lot c)
fit_next c low fit =
    let n = value_at 11 c in
    record {
      meta = record {
        version =
            ap (λ o. unwrap_or (option_map (λ (y : Counter). y.value) o) 0) (find_set 11 (n + 1) 16 refl c.counters) ∙ fit.meta.version;
        meta = meta_set 11 (n + 1) meta_keys c.counters fit.meta.meta (omega (arith, low));
        lots = subst (λ m. AllBelow (λ lot. lot) m (put_by (λ lot. lot) n c.lots)) (sym (value_now (n + 1) c fit.meta.meta)) (put_below c.lots n fit.meta.lots);
      };
      records = fit.records;
      pairs = fit.pairs;
      apart = fit.apart;
    }

-- ---- the step

abbrev added : ℕ → GuestContent → GuestContent
added lot c = set_counter 11 (lot + 1) (with_lot lot c)

held : (c : GuestContent) (s : State) → InsideAs (IsStored c) s → InsideAs (Holds c) s
held c s at = record { is_open = at.is_open; in_transaction = at.in_transaction; holds = at.holds.holds }

pub takes_next : {X Y E F : Type 0} (a b d : State) (lot : ℕ) (x : X) (y : Y) → LookedInside a b → lot < 2 ^ 62
    → (HasCleanDisk b → (c : GuestContent) → InsideAs (IsStored c) a → lot ≡ value_at 11 c) → Makes {E = E} (added lot) b d (Ok x)
    → Takes {E = F} IsStored (λ c. IsStored (with_next_lot c)) a d (Ok y)
takes_next a b d lot x y looked low is p = record {
  stays = stays_then a b d looked.stays looked.within p.stays;
  within = inside_then a b d looked.within p.stays.survives p.within;
  turns = λ clean c at.
      let mid = earlier b d _ p.stays.survives clean in
      let on = p.turns clean c (looked.same mid c (held c a at)) in
      record {
        is_open = on.is_open;
        in_transaction = on.in_transaction;
        holds = record {
          holds = subst (λ n. Holds (added n c) d.now) (is mid c at) on.holds;
          fit = fit_next c (subst (λ n. n < 2 ^ 62) (is mid c at) low) at.holds.fit;
        };
      };
}

-- what failed makes nothing
pub fails_stays : {Y E : Type 0} (a b : State) (r : Result Y E) → IsErr r → Stays a b → Takes IsStored (λ c. IsStored (with_next_lot c)) a b r
fails_stays a b (Ok y) is stays = absurd cc
fails_stays a b (Err e) is stays = record { stays = stays; within = tt; turns = tt }

pub outside_next : {Y : Type 0} (a : State) (e : Error) (r : Result Y StoreFault) → IsErrAnd r (λ f. f ≡ fault_of e)
    → IfErr r (λ f. (c : GuestContent) → InsideAs (IsStored c) a → value_at 11 c < 2 ^ 62 → IsOutside f)
outside_next a e (Ok y) same = tt
outside_next a e (Err f) same = λ c at low. subst IsOutside (sym same) (outside e)

module _ (a b : State) (rows : List Row) (found : HasCleanDisk b → (c : GuestContent) → InsideAs (Holds c) a → rows ≡ map shown_counter c.counters) where
  pub value_next : (lot : ℕ) → ((c : GuestContent) → IsMeta c → rows ≡ map shown_counter c.counters → lot ≡ value_at 11 c) → HasCleanDisk b
      → (c : GuestContent) → InsideAs (IsStored c) a → lot ≡ value_at 11 c
  value_next lot told clean c at = told c at.holds.fit.meta.meta (found clean c (held c a at))

  pub fault_next : {Y : Type 0} (e : StoreFault) (r : Result Y StoreFault) → IsErrAnd r (λ f. f ≡ e)
      → ((c : GuestContent) → IsMeta c → rows ≡ map shown_counter c.counters → IsOutside e) → HasCleanDisk b
      → IfErr r (λ f. (c : GuestContent) → InsideAs (IsStored c) a → value_at 11 c < 2 ^ 62 → IsOutside f)
  fault_next e (Ok y) same out clean = tt
  fault_next e (Err f) same out clean = λ c at low. subst IsOutside (sym same) (out c at.holds.fit.meta.meta (found clean c (held c a at)))

  pub none_left : (lot : ℕ) → ((c : GuestContent) → IsMeta c → rows ≡ map shown_counter c.counters → lot ≡ value_at 11 c) → 2 ^ 62 ≤ lot → HasCleanDisk b
      → (c : GuestContent) → InsideAs (IsStored c) a → value_at 11 c < 2 ^ 62 → IsOutside Damaged
  none_left lot told high clean c at low = let is = value_next lot told clean c at in absurd (omega (arith, is, high, low))

-- ---- its value

same_number : (m n : ℕ) → Int (pos m) ≡ Int (pos n) → m ≡ n
same_number m n e = cc

shown_five : (cs : List Counter) (d : Row) → IsMetaOf meta_keys cs → (x : Counter) × (slice_index_or (map shown_counter cs) 4 d ≡ Int (pos x.value) ∷ [])
    × (at_by counter_key 11 cs ≡ Some x)
shown_five [] d m = absurd m
shown_five (a ∷ []) d m = absurd m.2
shown_five (a ∷ b ∷ []) d m = absurd m.2.2
shown_five (a ∷ b ∷ c ∷ []) d m = absurd m.2.2.2
shown_five (a ∷ b ∷ c ∷ e ∷ []) d m = absurd m.2.2.2.2
shown_five (a ∷ b ∷ c ∷ e ∷ f ∷ cs) d m = (
  f,
  ap (λ z. Int z ∷ []) (to_z_pos w64 f.value (let low = m.2.2.2.2.1 in omega (arith, low))),
  rw (m.0, m.2.0, m.2.2.0, m.2.2.2.0, m.2.2.2.2.0) refl,
)

pub fifth : (c : GuestContent) (rows : List Row) (row d : Row) → IsMeta c → rows ≡ map shown_counter c.counters → row ≡ slice_index_or rows 4 d
    → row ≡ Int (pos (value_at 11 c)) ∷ []
fifth c rows row d meta same at =
    let x = shown_five c.counters d meta in
    at ∙ ap (λ rs. slice_index_or rs 4 d) same ∙ x.1
    ∙ sym (ap (λ o. Int (pos (unwrap_or (option_map (λ (y : Counter). y.value) o) 0)) ∷ []) x.2)

pub fifth_value : (row : Row) (m n : ℕ) → row ≡ Int (pos m) ∷ [] → column row 0 ≡ Int (pos n) → n ≡ m
fifth_value row m n is shows = same_number n m (sym shows ∙ ap (λ (r : Row). column r 0) is)

pub shown_long : (c : GuestContent) (rows : List Row) → IsMeta c → rows ≡ map shown_counter c.counters → length rows ≡ 8
shown_long c rows meta same = ap length same ∙ length-map c.counters shown_counter ∙ meta_length meta_keys c.counters meta

-- ---- and in the rows that an opening reads

module _ (c : GuestContent) (rows : List Row) (row d : Row) (is : IsMetaIn rows c) (at : row ≡ slice_index_or rows 4 d) where
  row_is : (x : Counter) × (row ≡ shown_meta x) × (at_by counter_key 11 c.counters ≡ Some x) × (x.value ≤ 4611686018427387904)
  row_is = let x = lot_row c.counters d is.meta in (x.0, at ∙ ap (λ rs. slice_index_or rs 4 d) is.are ∙ x.1, x.2, x.3)

  pub lot_column : column row 1 ≡ Int (pos (value_at 11 c))
  lot_column =
      let x = row_is in
      ap (λ (r : Row). column r 1) x.1 ∙ ap (λ z. Int z) (to_z_pos w64 x.0.value (let low = x.3 in omega (arith, low)))
      ∙ sym (ap (λ o. Int (pos (unwrap_or (option_map (λ (y : Counter). y.value) o) 0))) x.2)

  pub lot_long : 1 < length row
  lot_long = let x = row_is in subst (λ (r : Row). 1 < length r) (sym x.1) (omega arith)

  pub lot_value : (n : ℕ) → column row 1 ≡ Int (pos n) → n ≡ value_at 11 c
  lot_value n shows = same_number n (value_at 11 c) (sym shows ∙ lot_column)

-- so many rows there are
pub lots_long : (c : GuestContent) (rows : List Row) → IsMetaIn rows c → length rows ≡ 8
lots_long c rows is = ap length is.are ∙ length-map c.counters shown_meta ∙ meta_length meta_keys c.counters is.meta
