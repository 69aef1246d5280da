-- What keeps a guest's store in order.
use Rattle.std.proofs.Common.{◌≡◌, ◌≤◌, ◌<◌, ◌^◌, ℕ, Ok, Err, Result, OnOk, Bool, false, refl, sym, ap, subst, arith, ◌∙◌}
use Rattle.std.proofs.Common.{unwrap_or, option_map}
use Rattle.std.specs.Ordering.{is_eq, nat_cmp}
use Rattle.sqlite.specs.State.{State, HasCleanDisk, Survives}
use Rattle.sqlite.proofs.StateLemmas.{survives_weaker}
use Rattle.fuse_init.specs.declared.settings.Settings.{Settings}
use Rattle.fuse_store_tables.specs.Content.{Counter, LeftAs}
use Rattle.fuse_store_tables.specs.Moves.{RestsAs, InsideAs, Takes, ServesAs}
use Rattle.fuse_store_tables.specs.Opening.{AllBelow}
use Rattle.guest_tables.proofs.any_schema.Either.{sub_from, narrowed_if}
use Rattle.guest_tables.specs.Clearing.{cleared, without_settings}
use Rattle.guest_tables.specs.Content.{GuestContent, Holds, set_counter, value_at}
use Rattle.guest_tables.specs.Making.{new_content}
use Rattle.guest_tables.specs.Moves.{Makes, Serves}
use Rattle.guest_tables.specs.Opening.{IsFitContent, IsStored, HasMeta, meta_keys, greatest_value}
use Rattle.guest_tables.specs.Settling.{with_settings}
use Rattle.guest_tables.proofs.MetaLemmas.{meta_set, find_set}

-- ---- a new store

pub fit_new : (number : ℕ) → number < 2 ^ 63 → IsFitContent (new_content number)
fit_new number low = record {
  meta = record {
    version = refl;
    meta =
        (refl, omega arith, (refl, omega arith, (refl, omega arith, (refl, omega arith, (refl, omega arith, (refl, omega (arith, low), (refl, omega arith, (refl, omega arith, tt))))))));
    lots = tt;
  };
  records = tt;
  pairs = tt;
  apart = tt;
}

-- ---- another value of a counter

-- neither the version nor the next lot
pub record IsFree (key : ℕ) : Type 0 where
  pub version : is_eq (nat_cmp key 16) ≡ false
  pub lot : is_eq (nat_cmp key 11) ≡ false

value_set : (key v k : ℕ) → is_eq (nat_cmp key k) ≡ false → (c : GuestContent) → value_at k (set_counter key v c) ≡ value_at k c
value_set key v k other c = ap (λ o. unwrap_or (option_map (λ (x : Counter). x.value) o) 0) (find_set key v k other c.counters)

pub fit_set : (key v : ℕ) → IsFree key → v ≤ greatest_value key → (c : GuestContent) → IsFitContent c → IsFitContent (set_counter key v c)
fit_set key v free low c fit = record {
  meta = record {
    version = value_set key v 16 free.version c ∙ fit.meta.version;
    meta = meta_set key v meta_keys c.counters fit.meta.meta low;
    lots = subst (λ n. AllBelow (λ lot. lot) n c.lots) (sym (value_set key v 11 free.lot c)) fit.meta.lots;
  };
  records = fit.records;
  pairs = fit.pairs;
  apart = fit.apart;
}

free : (key : ℕ) → is_eq (nat_cmp key 16) ≡ false → is_eq (nat_cmp key 11) ≡ false → IsFree key
free key version lot = record { version = version; lot = lot }

pub fit_settings : (s : Settings) (pledged : ℕ) → s.minor < 2 ^ 32 → s.max_readahead < 2 ^ 32 → s.flags.0 < 2 ^ 64 → pledged < 2 ^ 64 → (c : GuestContent)
    → IsFitContent c → IsFitContent (with_settings s pledged c)
fit_settings s pledged minor readahead flags high c fit =
    let one = set_counter 7 1 c in
    let two = set_counter 8 s.minor one in
    let three = set_counter 9 s.max_readahead two in
    let four = set_counter 10 s.flags.0 three in
    fit_set 17 pledged (free 17 refl refl) (omega (arith, high)) four (fit_set 10 s.flags.0 (free 10 refl refl) (omega (arith, flags)) three
    (fit_set 9 s.max_readahead (free 9 refl refl) (omega (arith, readahead)) two (fit_set 8 s.minor (free 8 refl refl) (omega (arith, minor)) one
    (fit_set 7 1 (free 7 refl refl) (omega arith) c fit))))

fit_unset : (c : GuestContent) → IsFitContent c → IsFitContent (without_settings c)
fit_unset c fit =
    let one = set_counter 7 0 c in
    let two = set_counter 8 0 one in
    let three = set_counter 9 0 two in
    let four = set_counter 10 0 three in
    fit_set 17 0 (free 17 refl refl) (omega arith) four (fit_set 10 0 (free 10 refl refl) (omega arith) three
    (fit_set 9 0 (free 9 refl refl) (omega arith) two (fit_set 8 0 (free 8 refl refl) (omega arith) one (fit_set 7 0 (free 7 refl refl) (omega arith) c fit))))

pub fit_cleared : (c : GuestContent) → IsFitContent c → IsFitContent (cleared c)
fit_cleared c fit =
    let left = fit_unset c fit in
    record {
      meta = record { version = left.meta.version; meta = left.meta.meta; lots = tt };
      records = tt;
      pairs = left.pairs;
      apart = left.apart;
    }

-- ---- steps that keep it

module _ (f : GuestContent → GuestContent) (keeps : (c : GuestContent) → IsFitContent c → IsFitContent (f c)) (a b : State) where
  pub stored_takes : {X E : Type 0} (r : Result X E) → Makes f a b r → Takes IsStored (λ c. IsStored (f c)) a b r
  stored_takes r p =
      narrowed_if IsStored (λ c. Holds (f c)) (λ c. IsStored (f c)) a b r
      (sub_from IsStored Holds (λ c. Holds (f c)) (λ c d h. h.holds) a b r p)
      (λ clean c at on. record {
        is_open = on.is_open;
        in_transaction = on.in_transaction;
        holds = record { holds = on.holds; fit = keeps c at.holds.fit };
      })

  rests_held : (c : GuestContent) (s : State) → RestsAs (IsStored c) s → RestsAs (Holds c) s
  rests_held c s at = record { is_open = at.is_open; autocommit = at.autocommit; holds = at.holds.holds; committed = at.committed }

  rests_fit : (c : GuestContent) (s : State) → IsFitContent c → RestsAs (Holds c) s → RestsAs (IsStored c) s
  rests_fit c s fit at = record { is_open = at.is_open; autocommit = at.autocommit; holds = record { holds = at.holds; fit = fit }; committed = at.committed }

  survives_fit : Survives a b (λ db. (c : GuestContent) → RestsAs (Holds c) a → LeftAs (Holds (f c)) db)
      → Survives a b (λ db. (c : GuestContent) → RestsAs (IsStored c) a → LeftAs (IsStored (f c)) db)
  survives_fit s = survives_weaker a b _ _ (λ clean db left c at. (let it = left c (rests_held c a at) in (
    it.0,
    record { holds = it.1; fit = keeps c at.holds.fit },
    it.2,
  ))) s

  pub stored_serves : {X E : Type 0} (r : Result X E) → Serves f a b r → ServesAs IsStored (λ c. IsStored (f c)) a b r
  stored_serves (Ok x) p = record {
    survives = survives_fit p.survives;
    kept = tt;
    done = λ clean c at. rests_fit (f c) b (keeps c at.holds.fit) (p.done clean c (rests_held c a at));
  }
  stored_serves (Err e) p = record {
    survives = survives_fit p.survives;
    kept = λ clean is_open c at. rests_fit c b at.holds.fit (p.kept clean is_open c (rests_held c a at));
    done = tt;
  }
