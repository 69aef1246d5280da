-- The values of counters after a change, and the counters that are above all numbers.
use Rattle.std.proofs.Common.{◌≡◌, ◌<◌, ◌+◌, inl, inr, ℕ, zero, suc, List, [], ◌∷◌, filter, slice_index_or, Bool, true, false, cond}
use Rattle.std.proofs.Common.{Some, Less, Equal, Greater, unwrap_or, option_map, refl, sym, ap, subst, arith, ◌∙◌}
use Rattle.std.specs.List.{AllByRecursion, find}
use Rattle.std.specs.Ordering.{is_eq, nat_cmp, match_ordering}
use Rattle.std.specs.declared.cmp.Ordering.{Ordering}
use Rattle.std.proofs.lemmas.Bool.{cases_Bool}
use Rattle.std.proofs.lemmas.Bool.Decides.{nat_tests}
use Rattle.fuse_init.specs.declared.profile.Profile.{Profile}
use Rattle.fuse_store_tables.specs.Content.{Content, Counter, counter_key, has_by, at_by, put_by, set_by, valued, value_at, set_counter, with_counter}
use Rattle.fuse_store_tables.specs.Opening.{IsMetaFrom, AllBelow, AreAbove, LotsAreBelow}
use Rattle.fuse_store_tables.proofs.MetaLemmas.{no_counter}

-- ---- one counter changed, another read

apart : (a b k : ℕ) → is_eq (nat_cmp a b) ≡ true → is_eq (nat_cmp b k) ≡ false → is_eq (nat_cmp a k) ≡ false
apart a b k same other = grind (arith, nat_tests)

find_set : (key v k : ℕ) → is_eq (nat_cmp key k) ≡ false → (cs : List Counter) → at_by counter_key k (set_by counter_key key (valued v) cs) ≡ at_by counter_key k cs
find_set key v k other [] = refl
find_set key v k other (c ∷ cs) =
    let more = find_set key v k other cs in
    let rest = set_by counter_key key (valued v) cs in
    elim (cases_Bool (has_by counter_key key c)) [
      | inl here ↦
          let skips : has_by counter_key k c ≡ false = apart c.key key k here other in
          ap (λ b. find (has_by counter_key k) (cond b (valued v c) c ∷ rest)) here
          ∙ ap (λ b. cond b (Some (valued v c)) (find (has_by counter_key k) rest)) skips
          ∙ more
          ∙ sym (ap (λ b. cond b (Some c) (find (has_by counter_key k) cs)) skips)
      | inr not_here ↦
          ap (λ b. find (has_by counter_key k) (cond b (valued v c) c ∷ rest)) not_here
          ∙ ap (λ o. cond (has_by counter_key k c) (Some c) o) more
    ]

pub value_set : (key v k : ℕ) → is_eq (nat_cmp key k) ≡ false → (c : Content) → value_at k (set_counter key v c) ≡ value_at k c
value_set key v k other c = ap (λ o. unwrap_or (option_map (λ (x : Counter). x.value) o) 0) (find_set key v k other c.counters)

-- ---- one counter added

placed : {X : Type 0} (P : X → Type 0) (o : Ordering) (x y z : X) → (o ≡ Less → P x) → (o ≡ Equal → P y) → (o ≡ Greater → P z) → P (match_ordering o x y z)
placed P Less x y z p q r = p refl
placed P Equal x y z p q r = q refl
placed P Greater x y z p q r = r refl

equal_is : (a b : ℕ) → nat_cmp a b ≡ Equal → is_eq (nat_cmp a b) ≡ true
equal_is a b is = ap is_eq is

less_other : (a b : ℕ) → nat_cmp a b ≡ Less → is_eq (nat_cmp a b) ≡ false
less_other a b is = ap is_eq is

same_is : (a : ℕ) → is_eq (nat_cmp a a) ≡ true
same_is a = grind (arith, nat_tests)

module _ (key v : ℕ) where
  abbrev pub new : Counter
  new = record { key = key; value = v }

  pub find_put_other : (k : ℕ) → is_eq (nat_cmp key k) ≡ false → (cs : List Counter) → at_by counter_key k (put_by counter_key new cs) ≡ at_by counter_key k cs
  find_put_other k other [] = ap (λ b. cond b (Some new) (find (has_by counter_key k) [])) other
  find_put_other k other (c ∷ cs) =
      placed (λ l. at_by counter_key k l ≡ at_by counter_key k (c ∷ cs)) (nat_cmp c.key key) (c ∷ put_by counter_key new cs) (new ∷ cs) (new ∷ c ∷ cs)
      (λ below. ap (λ o. cond (has_by counter_key k c) (Some c) o) (find_put_other k other cs))
      (λ same.
      ap (λ b. cond b (Some new) (find (has_by counter_key k) cs)) other
      ∙ sym (ap (λ b. cond b (Some c) (find (has_by counter_key k) cs)) (apart c.key key k (equal_is c.key key same) other)))
      (λ above. ap (λ b. cond b (Some new) (find (has_by counter_key k) (c ∷ cs))) other)

  pub find_put : (cs : List Counter) → at_by counter_key key (put_by counter_key new cs) ≡ Some new
  find_put [] = ap (λ b. cond b (Some new) (find (has_by counter_key key) [])) (same_is key)
  find_put (c ∷ cs) =
      placed (λ l. at_by counter_key key l ≡ Some new) (nat_cmp c.key key) (c ∷ put_by counter_key new cs) (new ∷ cs) (new ∷ c ∷ cs)
      (λ below. ap (λ b. cond b (Some c) (find (has_by counter_key key) (put_by counter_key new cs))) (less_other c.key key below) ∙ find_put cs)
      (λ same. ap (λ b. cond b (Some new) (find (has_by counter_key key) cs)) (same_is key))
      (λ above. ap (λ b. cond b (Some new) (find (has_by counter_key key) (c ∷ cs))) (same_is key))

pub value_put_other : (key v k : ℕ) → is_eq (nat_cmp key k) ≡ false → (c : Content) → value_at k (with_counter key v c) ≡ value_at k c
value_put_other key v k other c = ap (λ o. unwrap_or (option_map (λ (x : Counter). x.value) o) 0) (find_put_other key v k other c.counters)

pub value_put : (key v : ℕ) (c : Content) → value_at key (with_counter key v c) ≡ v
value_put key v c = ap (λ o. unwrap_or (option_map (λ (x : Counter). x.value) o) 0) (find_put key v c.counters)

-- ---- a counter by its place

later : (a k n : ℕ) → a ≡ k → is_eq (nat_cmp a (k + suc n)) ≡ false
later a k n is = grind (arith, nat_tests)

first_is : (a k : ℕ) → a ≡ k → is_eq (nat_cmp a (k + 0)) ≡ true
first_is a k is = grind (arith, nat_tests)

-- the row at this place has the key that follows from it
pub found_at : (p : Profile) (k n at : ℕ) (cs : List Counter) → IsMetaFrom p k n cs → at < n → at_by counter_key (k + at) cs ≡ Some (slice_index_or cs at no_counter)
found_at p k zero at [] meta low = absurd (omega (arith, low))
found_at p k zero at (c ∷ cs) meta low = absurd meta
found_at p k (suc n) at [] meta low = absurd meta
found_at p k (suc n) zero (c ∷ cs) meta low = ap (λ b. cond b (Some c) (find (has_by counter_key (k + 0)) cs)) (first_is c.key k meta.0)
found_at p k (suc n) (suc at) (c ∷ cs) meta low =
    ap (λ b. cond b (Some c) (find (has_by counter_key (k + suc at)) cs)) (later c.key k at meta.0)
    ∙ ap (λ m. at_by counter_key m cs) (moved k at) ∙ found_at p (k + 1) n at cs meta.2 (omega (arith, low))
  where
    moved : (k at : ℕ) → k + suc at ≡ k + 1 + at
    moved k at = omega arith

-- ---- the numbers below

all_filter : {X : Type 0} (P : X → Type 0) (q : X → Bool) (xs : List X) → AllByRecursion P xs → AllByRecursion P (filter q xs)
all_filter P q [] all = tt
all_filter P q (x ∷ xs) all = told (all_filter P q xs all.1) (q x)
  where
    told : AllByRecursion P (filter q xs) → (b : Bool) → AllByRecursion P (cond b (x ∷ filter q xs) (filter q xs))
    told more true = (all.0, more)
    told more false = more

pub below_filter : {X : Type 0} (key : X → ℕ) (next : ℕ) (q : X → Bool) (xs : List X) → AllBelow key next xs → AllBelow key next (filter q xs)
below_filter key next q xs all = all_filter (λ x. key x < next) q xs all

-- other counters, and the same numbers
pub record AreOthers (key : ℕ) : Type 0 where
  pub node : is_eq (nat_cmp key 2) ≡ false
  pub fh : is_eq (nat_cmp key 3) ≡ false
  pub cookie : is_eq (nat_cmp key 4) ≡ false

pub above_set : (key v : ℕ) → AreOthers key → (c : Content) → AreAbove c → AreAbove (set_counter key v c)
above_set key v other c above = record {
  nodes = subst (λ n. AllBelow (λ x. x.node) n c.nodes) (sym (value_set key v 2 other.node c)) above.nodes;
  handles = subst (λ n. AllBelow (λ x. x.fh) n c.handles) (sym (value_set key v 3 other.fh c)) above.handles;
  entries = subst (λ n. AllBelow (λ x. x.cookie) n c.entries) (sym (value_set key v 4 other.cookie c)) above.entries;
}

pub lots_set : (key v : ℕ) → is_eq (nat_cmp key 11) ≡ false → (c : Content) → LotsAreBelow c → LotsAreBelow (set_counter key v c)
lots_set key v other c below = subst (λ n. AllBelow (λ lot. lot) n c.lots) (sym (value_set key v 11 other c)) below

pub above_put : (key v : ℕ) → AreOthers key → (c : Content) → AreAbove c → AreAbove (with_counter key v c)
above_put key v other c above = record {
  nodes = subst (λ n. AllBelow (λ x. x.node) n c.nodes) (sym (value_put_other key v 2 other.node c)) above.nodes;
  handles = subst (λ n. AllBelow (λ x. x.fh) n c.handles) (sym (value_put_other key v 3 other.fh c)) above.handles;
  entries = subst (λ n. AllBelow (λ x. x.cookie) n c.entries) (sym (value_put_other key v 4 other.cookie c)) above.entries;
}
