-- The rows of `meta`.
use Rattle.std.proofs.Common.{◌≡◌, ◌≤◌, ◌<◌, ◌+◌, inl, inr, ℕ, zero, suc, List, [], ◌∷◌, ◌++◌, map, take, length, slice_index_or, true, cond, Less}
use Rattle.std.proofs.Common.{refl, sym, ap, subst}
use Rattle.std.proofs.Common.{arith, ◌∙◌}
use Rattle.std.proofs.lemmas.List.{take_more, length-map}
use Rattle.std.specs.Ordering.{is_eq, nat_cmp, match_ordering}
use Rattle.std.proofs.lemmas.Bool.{cases_Bool}
use Rattle.std.proofs.lemmas.Bool.Decides.{nat_tests}
use Rattle.sqlite.specs.Order.{Row}
use Rattle.fuse_init.specs.declared.profile.Profile.{Profile}
use Rattle.fuse_init.specs.declared.profile.Profile.TheVariants.{Plain}
use Rattle.fuse_store_tables.specs.Content.{Content, Counter, counter_key, has_by, valued, value_at, put_by, with_counter}
use Rattle.fuse_store_tables.specs.Opening.{IsMetaFrom, greatest_value, as_version_2}
use Rattle.fuse_store_tables.specs.inner.Columns.{shown_meta}

pub meta_length : (p : Profile) (k n : ℕ) (cs : List Counter) → IsMetaFrom p k n cs → length cs ≡ n
meta_length p k zero [] meta = refl
meta_length p k zero (c ∷ cs) meta = absurd meta
meta_length p k (suc n) [] meta = absurd meta
meta_length p k (suc n) (c ∷ cs) meta = ap suc (meta_length p (k + 1) n cs meta.2)

abbrev IsRowAt : Profile → ℕ → Row → Counter → Type 0
IsRowAt p key row c = (row ≡ shown_meta c) × (c.key ≡ key) × (c.value ≤ greatest_value p c.key)

pub row_at : (p : Profile) (k n : ℕ) (cs : List Counter) (at : ℕ) (d : Row) → IsMetaFrom p k n cs → at < length (map shown_meta cs) → (c : Counter)
    × IsRowAt p (k + at) (slice_index_or (map shown_meta cs) at d) c
row_at p k zero [] at d meta low = absurd (omega (arith, low))
row_at p k zero (c ∷ cs) at d meta low = absurd meta
row_at p k (suc n) [] at d meta low = absurd meta
row_at p k (suc n) (c ∷ cs) zero d meta low = (c, (refl, omega (arith, meta.0), meta.1))
row_at p k (suc n) (c ∷ cs) (suc at) d meta low =
    let more = row_at p (k + 1) n cs at d meta.2 (omega (arith, low)) in
    (more.0, (more.1.0, omega (arith, more.1.1), more.1.2))

-- the rows before this place are as they should be
abbrev pub StartsWell : Profile → List Row → ℕ → Type 0
StartsWell p rows at = (cs : List Counter) → rows ≡ map shown_meta cs → IsMetaFrom p 1 at (take at cs)

pub no_counter : Counter
no_counter = record { key = 0; value = 0 }

pub shown_at : (cs : List Counter) (at : ℕ) (d : Row) → at < length (map shown_meta cs)
    → slice_index_or (map shown_meta cs) at d ≡ shown_meta (slice_index_or cs at no_counter)
shown_at [] at d low = absurd (omega (arith, low))
shown_at (c ∷ cs) zero d low = refl
shown_at (c ∷ cs) (suc at) d low = shown_at cs at d (omega (arith, low))

meta_last : (p : Profile) (k n : ℕ) (cs : List Counter) (c : Counter) → IsMetaFrom p k n cs → c.key ≡ k + n → c.value ≤ greatest_value p c.key
    → IsMetaFrom p k (suc n) (cs ++ c ∷ [])
meta_last p k zero [] c meta is low = (omega (arith, is), low, tt)
meta_last p k zero (x ∷ cs) c meta is low = absurd meta
meta_last p k (suc n) [] c meta is low = absurd meta
meta_last p k (suc n) (x ∷ cs) c meta is low = (meta.0, meta.1, meta_last p (k + 1) n cs c meta.2 (omega (arith, is)) low)

one_above : (n : ℕ) → suc n ≡ n + 1
one_above n = omega arith

-- one row more
pub starts_more : (p : Profile) (rows : List Row) (at : ℕ) (row : Row) → at < length rows → row ≡ slice_index_or rows at row
    → ((c : Counter) → row ≡ shown_meta c → (c.key ≡ at + 1) × (c.value ≤ greatest_value p c.key)) → StartsWell p rows at → StartsWell p rows (at + 1)
starts_more p rows at row low is whole so_far cs same =
    let below : at < length (map shown_meta cs) = subst (λ rs. at < length rs) same low in
    let c = slice_index_or cs at no_counter in
    let told = whole c (is ∙ ap (λ rs. slice_index_or rs at row) same ∙ shown_at cs at row below) in
    subst (IsMetaFrom p 1 (at + 1)) (sym (take_more cs at no_counter (subst (λ n. at < n) (length-map cs shown_meta) below)))
    (subst (λ m. IsMetaFrom p 1 m (take at cs ++ c ∷ [])) (one_above at) (meta_last p 1 at (take at cs) c (so_far cs same) (omega (arith, told.0)) told.1))

-- one more row after the others
lower : (a b k n : ℕ) → a ≡ k → b ≡ k + suc n → nat_cmp a b ≡ Less
lower a b k n first last = grind (arith, nat_tests)

pub meta_more : (p : Profile) (k n m v : ℕ) (cs : List Counter) → m ≡ k + n → IsMetaFrom p k n cs → v ≤ greatest_value p m
    → IsMetaFrom p k (suc n) (put_by (λ (x : Counter). x.key) (record { key = m; value = v }) cs)
meta_more p k zero m v [] is meta low = (omega (arith, is), low, tt)
meta_more p k zero m v (c ∷ cs) is meta low = absurd meta
meta_more p k (suc n) m v [] is meta low = absurd meta
meta_more p k (suc n) m v (c ∷ cs) is meta low =
    let new : Counter = record { key = m; value = v } in
    let more = meta_more p (k + 1) n m v cs (omega (arith, is)) meta.2 low in
    subst (λ o. IsMetaFrom p k (suc (suc n)) (match_ordering o (c ∷ put_by (λ (x : Counter). x.key) new cs) (new ∷ cs) (new ∷ c ∷ cs)))
    (sym (lower c.key m k n meta.0 is)) (meta.0, meta.1, more)

same_key : (m n : ℕ) → is_eq (nat_cmp m n) ≡ true → m ≡ n
same_key m n is = grind (arith, nat_tests)

-- another value in range
pub meta_set : (p : Profile) (k n key v : ℕ) (cs : List Counter) → IsMetaFrom p k n cs → v ≤ greatest_value p key
    → IsMetaFrom p k n (map (λ x. cond (has_by counter_key key x) (valued v x) x) cs)
meta_set p k zero key v [] meta low = tt
meta_set p k zero key v (c ∷ cs) meta low = absurd meta
meta_set p k (suc n) key v [] meta low = absurd meta
meta_set p k (suc n) key v (c ∷ cs) meta low = elim (cases_Bool (has_by counter_key key c)) [
  | inl here ↦
      subst (λ b. IsMetaFrom p k (suc n) (cond b (valued v c) c ∷ map (λ x. cond (has_by counter_key key x) (valued v x) x) cs)) (sym here)
      (meta.0, subst (λ m. v ≤ greatest_value p m) (sym (same_key c.key key here)) low, meta_set p (k + 1) n key v cs meta.2 low)
  | inr not_here ↦
      subst (λ b. IsMetaFrom p k (suc n) (cond b (valued v c) c ∷ map (λ x. cond (has_by counter_key key x) (valued v x) x) cs)) (sym not_here)
      (meta.0, meta.1, meta_set p (k + 1) n key v cs meta.2 low)
]

-- ---- the first row is the version

pub marked_meta : (c : Content) → IsMetaFrom Plain 1 10 c.counters → IsMetaFrom Plain 1 11 (as_version_2 c).counters
marked_meta c meta = meta_set Plain 1 11 1 2 (with_counter 11 1 c).counters (meta_more Plain 1 10 11 1 c.counters refl meta (omega arith)) (omega arith)

second_of : (c : Content) (cs : List Counter) → IsMetaFrom Plain 1 10 cs → value_at 1 (as_version_2 (record c { counters = cs })) ≡ 2
second_of c [] meta = absurd meta
second_of c (x ∷ cs) meta = started x.key x.value meta.0
  where
    started : (key value : ℕ) → key ≡ 1 → value_at 1 (as_version_2 (record c { counters = record { key = key; value = value } ∷ cs })) ≡ 2
    started key value is = subst (λ k. value_at 1 (as_version_2 (record c { counters = record { key = k; value = value } ∷ cs })) ≡ 2) (sym is) refl

pub marked_version : (c : Content) → IsMetaFrom Plain 1 10 c.counters → value_at 1 (as_version_2 c) ≡ 2
marked_version c meta = second_of c c.counters meta
