-- Values that are read of a store in order.
use Rattle.std.proofs.Common.{◌≡◌, ◌≢◌, ◌≤◌, ◌<◌, ◌^◌, ◌==◌, ℕ, zero, suc, List, [], ◌∷◌, map, length, slice_index_or, Bool, true, false, cond, Option, Some, None, IfSome, Ok, Err, Result, IfErr, IsErrAnd, unwrap_or, option_map}
use Rattle.std.proofs.Common.{refl, sym, ap, subst, inl, inr, arith, ◌∙◌}
use Rattle.std.specs.List.{AllByRecursion}
use Rattle.std.proofs.lemmas.Bool.{cases_Bool}
use Rattle.std.proofs.lemmas.Bool.Decides.{nat_tests}
use Rattle.sqlite.specs.Order.{Row}
use Rattle.sqlite.specs.State.{State}
use Rattle.fuse_init.specs.declared.settings.Settings.{Settings}
use Rattle.fuse_keeper.specs.declared.fault.StoreFault.{StoreFault}
use Rattle.fuse_store_tables.specs.Faults.{IsOutside}
use Rattle.fuse_store_tables.specs.Content.{Counter, has_by, at_by, counter_key}
use Rattle.fuse_store_tables.specs.Moves.{InsideAs, RestsAs}
use Rattle.guest_tables.specs.Content.{GuestContent, pledged_key, shown_counter, value_at}
use Rattle.guest_tables.specs.Holding.{GuestHolding, HeldFor, holding_in, settings_in}
use Rattle.guest_tables.specs.Moves.{Inside, Rests}
use Rattle.guest_tables.specs.Opening.{IsMeta, IsMetaOf, IsFitContent, meta_keys}
use Rattle.guest_tables.specs.inner.Columns.{value_of}

-- ---- the content of what is held

abbrev pub IsHolding : GuestHolding → GuestContent → Type 0
IsHolding y k = IsFitContent k × (holding_in k ≡ y)

pub held_inside : (y : GuestHolding) (s : State) → InsideAs (HeldFor y) s → (k : GuestContent) × Inside k s × IsHolding y k
held_inside y s at = (
  at.holds.0,
  record { is_open = at.is_open; in_transaction = at.in_transaction; holds = at.holds.1 },
  (at.holds.2, at.holds.3),
)

pub held_at_rest : (y : GuestHolding) (s : State) → RestsAs (HeldFor y) s → (k : GuestContent) × Rests k s × IsHolding y k
held_at_rest y s at = (
  at.holds.0,
  record { is_open = at.is_open; autocommit = at.autocommit; holds = at.holds.1; committed = at.committed },
  (at.holds.2, at.holds.3),
)

-- ---- what is found by a key

pub found_is : {X : Type 0} (key : X → ℕ) (k : ℕ) (P : X → Type 0) (xs : List X) → AllByRecursion P xs → IfSome (at_by key k xs) P
found_is key k P [] all = tt
found_is key k P (x ∷ xs) all = elim (cases_Bool (has_by key k x)) [
  | inl here ↦ rw here all.0
  | inr not_here ↦ rw not_here (found_is key k P xs all.1)
]

-- ---- faults

-- what `?` returns of a fault in the values of the counters
pub fault_back : {Y : Type 0} (rows : List Row) (e : StoreFault) (r : Result Y StoreFault) → IsErrAnd r (λ f. f ≡ e)
    → ((k : GuestContent) → IsMeta k → rows ≡ map shown_counter k.counters → IsOutside e)
    → IfErr r (λ f. (k : GuestContent) → IsMeta k → rows ≡ map shown_counter k.counters → IsOutside f)
fault_back rows e (Ok y) same out = absurd same
fault_back rows e (Err f) same out = λ k meta is. subst IsOutside (sym same) (out k meta is)

-- ---- the settings

-- the first four values, their numbers of bits, and what they say
pub record AreAgreed (c : GuestContent) : Type 0 where
  pub long : 4 ≤ length c.counters
  pub agreed : value_of c.counters 0 ≡ value_at 7 c
  pub minor : value_of c.counters 1 ≡ value_at 8 c
  pub readahead : value_of c.counters 2 ≡ value_at 9 c
  pub flags : value_of c.counters 3 ≡ value_at 10 c
  pub agreed_bits : value_of c.counters 0 < 2 ^ 64
  pub minor_bits : value_of c.counters 1 < 2 ^ 32
  pub readahead_bits : value_of c.counters 2 < 2 ^ 32
  pub flags_bits : value_of c.counters 3 < 2 ^ 64

abbrev value_in : ℕ → List Counter → ℕ
value_in key cs = unwrap_or (option_map (λ (x : Counter). x.value) (at_by counter_key key cs)) 0

record AreFirst (cs : List Counter) : Type 0 where
  long : 4 ≤ length cs
  agreed : value_of cs 0 ≡ value_in 7 cs
  minor : value_of cs 1 ≡ value_in 8 cs
  readahead : value_of cs 2 ≡ value_in 9 cs
  flags : value_of cs 3 ≡ value_in 10 cs
  agreed_low : value_of cs 0 ≤ 1
  minor_low : value_of cs 1 ≤ 4294967295
  readahead_low : value_of cs 2 ≤ 4294967295
  flags_low : value_of cs 3 ≤ 18446744073709551615

are_first : (cs : List Counter) → IsMetaOf meta_keys cs → AreFirst cs
are_first [] m = absurd m
are_first (a ∷ []) m = absurd m.2
are_first (a ∷ b ∷ []) m = absurd m.2.2
are_first (a ∷ b ∷ c ∷ []) m = absurd m.2.2.2
are_first (a ∷ b ∷ c ∷ e ∷ cs) m = record {
  long = omega arith;
  agreed = rw m.0 refl;
  minor = rw (m.0, m.2.0) refl;
  readahead = rw (m.0, m.2.0, m.2.2.0) refl;
  flags = rw (m.0, m.2.0, m.2.2.0, m.2.2.2.0) refl;
  agreed_low = m.1;
  minor_low = m.2.1;
  readahead_low = m.2.2.1;
  flags_low = m.2.2.2.1;
}

pub are_agreed : (c : GuestContent) → IsMeta c → AreAgreed c
are_agreed c meta =
    let p = are_first c.counters meta in
    record {
      long = p.long;
      agreed = p.agreed;
      minor = p.minor;
      readahead = p.readahead;
      flags = p.flags;
      agreed_bits = (let low = p.agreed_low in omega (arith, low));
      minor_bits = (let low = p.minor_low in omega (arith, low));
      readahead_bits = (let low = p.readahead_low in omega (arith, low));
      flags_bits = (let low = p.flags_low in omega (arith, low));
    }

abbrev settings_of : ℕ → ℕ → ℕ → Option Settings
settings_of minor readahead flags = Some (record { minor = minor; max_readahead = readahead; flags = record { 0 = flags } })

not_zero : (n : ℕ) → n ≢ 0 → (n == 0) ≡ false
not_zero n some = grind (arith, nat_tests)

module _ (c : GuestContent) (meta : IsMeta c) (agreed : ℕ) (is : agreed ≡ value_of c.counters 0) where
  pub none_agreed : agreed ≡ 0 → None ≡ settings_in c
  none_agreed none =
      sym (ap (λ n. cond (n == 0) None (settings_of (value_at 8 c) (value_at 9 c) (value_at 10 c))) (sym (is ∙ (are_agreed c meta).agreed) ∙ none))

  pub some_agreed : (minor readahead flags : ℕ) → agreed ≢ 0 → minor ≡ value_of c.counters 1 → readahead ≡ value_of c.counters 2 → flags ≡ value_of c.counters 3
      → settings_of minor readahead flags ≡ settings_in c
  some_agreed minor readahead flags some same_minor same_readahead same_flags =
      let p = are_agreed c meta in
      ap (λ n. settings_of n readahead flags) (same_minor ∙ p.minor) ∙ ap (λ n. settings_of (value_at 8 c) n flags) (same_readahead ∙ p.readahead)
      ∙ ap (λ n. settings_of (value_at 8 c) (value_at 9 c) n) (same_flags ∙ p.flags)
      ∙ sym (ap (λ b. cond b None (settings_of (value_at 8 c) (value_at 9 c) (value_at 10 c)))
      (not_zero (value_at 7 c) (λ none. some (is ∙ p.agreed ∙ none))))

-- ---- what was pledged

-- the last value
pub record IsLast (c : GuestContent) : Type 0 where
  pub long : 7 < length c.counters
  pub is : value_of c.counters 7 ≡ value_at pledged_key c
  pub low : value_of c.counters 7 < 2 ^ 64

record HasLast (cs : List Counter) : Type 0 where
  long : 7 < length cs
  is : value_of cs 7 ≡ value_in pledged_key cs
  low : value_of cs 7 ≤ 18446744073709551615

has_last : (cs : List Counter) → IsMetaOf meta_keys cs → HasLast cs
has_last [] m = absurd m
has_last (a ∷ []) m = absurd m.2
has_last (a ∷ b ∷ []) m = absurd m.2.2
has_last (a ∷ b ∷ c ∷ []) m = absurd m.2.2.2
has_last (a ∷ b ∷ c ∷ d ∷ []) m = absurd m.2.2.2.2
has_last (a ∷ b ∷ c ∷ d ∷ e ∷ []) m = absurd m.2.2.2.2.2
has_last (a ∷ b ∷ c ∷ d ∷ e ∷ f ∷ []) m = absurd m.2.2.2.2.2.2
has_last (a ∷ b ∷ c ∷ d ∷ e ∷ f ∷ g ∷ []) m = absurd m.2.2.2.2.2.2.2
has_last (a ∷ b ∷ c ∷ d ∷ e ∷ f ∷ g ∷ h ∷ cs) m = record {
  long = omega arith;
  is = rw (m.0, m.2.0, m.2.2.0, m.2.2.2.0, m.2.2.2.2.0, m.2.2.2.2.2.0, m.2.2.2.2.2.2.0, m.2.2.2.2.2.2.2.0) refl;
  low = m.2.2.2.2.2.2.2.1;
}

pub last_is : (c : GuestContent) → IsMeta c → IsLast c
last_is c meta =
    let p = has_last c.counters meta in
    record { long = p.long; is = p.is; low = (let low = p.low in omega (arith, low)) }
