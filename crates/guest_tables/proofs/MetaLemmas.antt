-- The rows of `meta`.
use Rattle.std.proofs.Common.{◌≡◌, ◌≤◌, ◌<◌, ◌^◌, ◌+◌, ℕ, zero, suc, List, [], ◌∷◌, ◌++◌, map, take, length, slice_index_or, Bool, true, false, cond, nat_lt}
use Rattle.std.proofs.Common.{Option, Some, None, unwrap_or, option_map, refl, sym, ap, subst, arith, inl, inr, ◌∙◌}
use Rattle.std.proofs.lemmas.List.{take_more, length-map}
use Rattle.std.proofs.lemmas.Bool.{cases_Bool}
use Rattle.std.proofs.lemmas.Bool.Decides.{nat_tests}
use Rattle.std.specs.List.{AllByRecursion, find}
use Rattle.std.specs.Ordering.{is_eq, nat_cmp}
use Rattle.sqlite.specs.Order.{Row}
use Rattle.fuse_store_tables.specs.Content.{Counter, counter_key, has_by, at_by, set_by, valued}
use Rattle.guest_tables.specs.Opening.{IsMetaOf, meta_keys, greatest_value}
use Rattle.guest_tables.specs.inner.Columns.{shown_meta}

abbrev pub AreBits : List Counter → Type 0
AreBits = AllByRecursion (λ (x : Counter). x.value < 2 ^ 64)

-- ---- values in range are of 64 bits

either_small : (b : Bool) (m n : ℕ) → m < 2 ^ 64 → n < 2 ^ 64 → cond b m n < 2 ^ 64
either_small true m n low high = low
either_small false m n low high = high

pub greatest_small : (key : ℕ) → greatest_value key < 2 ^ 64
greatest_small key =
    either_small (nat_lt key 8) _ _ (omega arith) (either_small (nat_lt key 10) _ _ (omega arith) (either_small (nat_lt key 11) _ _ (omega arith)
    (either_small (nat_lt key 12) _ _ (omega arith) (either_small (nat_lt key 16) _ _ (omega arith) (omega arith)))))

pub small_by : (v m : ℕ) → v ≤ m → m < 2 ^ 64 → v < 2 ^ 64
small_by v m low small = omega (arith, low, small)

pub meta_bits : (keys : List ℕ) (cs : List Counter) → IsMetaOf keys cs → AreBits cs
meta_bits [] [] meta = tt
meta_bits [] (c ∷ cs) meta = absurd meta
meta_bits (k ∷ keys) [] meta = absurd meta
meta_bits (k ∷ keys) (c ∷ cs) meta = (small_by c.value (greatest_value k) meta.1 (greatest_small k), meta_bits keys cs meta.2)

pub meta_length : (keys : List ℕ) (cs : List Counter) → IsMetaOf keys cs → length cs ≡ length keys
meta_length [] [] meta = refl
meta_length [] (c ∷ cs) meta = absurd meta
meta_length (k ∷ keys) [] meta = absurd meta
meta_length (k ∷ keys) (c ∷ cs) meta = ap suc (meta_length keys cs meta.2)

-- ---- one row after another

abbrev IsRowAt : ℕ → Row → Counter → Type 0
IsRowAt key row c = (row ≡ shown_meta c) × (c.key ≡ key) × (c.value ≤ greatest_value key)

pub row_at : (keys : List ℕ) (cs : List Counter) (at : ℕ) (k : ℕ) (d : Row) → IsMetaOf keys cs → at < length (map shown_meta cs) → (c : Counter)
    × IsRowAt (slice_index_or keys at k) (slice_index_or (map shown_meta cs) at d) c
row_at [] [] at k d meta low = absurd (omega (arith, low))
row_at [] (c ∷ cs) at k d meta low = absurd meta
row_at (key ∷ keys) [] at k d meta low = absurd meta
row_at (key ∷ keys) (c ∷ cs) zero k d meta low = (c, (refl, meta.0, meta.1))
row_at (key ∷ keys) (c ∷ cs) (suc at) k d meta low = row_at keys cs at k d meta.2 (omega (arith, low))

-- the rows before this place are as they should be
abbrev pub StartsWell : List ℕ → List Row → ℕ → Type 0
StartsWell keys rows at = (cs : List Counter) → rows ≡ map shown_meta cs → AreBits cs → IsMetaOf (take at keys) (take at cs)

no_counter : Counter
no_counter = record { key = 0; value = 0 }

shown_at : (cs : List Counter) (at : ℕ) (d : Row) → at < length (map shown_meta cs) → slice_index_or (map shown_meta cs) at d ≡ shown_meta (slice_index_or cs at no_counter)
shown_at [] at d low = absurd (omega (arith, low))
shown_at (c ∷ cs) zero d low = refl
shown_at (c ∷ cs) (suc at) d low = shown_at cs at d (omega (arith, low))

bits_there : (cs : List Counter) (at : ℕ) → AreBits cs → at < length cs → (slice_index_or cs at no_counter).value < 2 ^ 64
bits_there [] at bits low = absurd (omega (arith, low))
bits_there (c ∷ cs) zero bits low = bits.0
bits_there (c ∷ cs) (suc at) bits low = bits_there cs at bits.1 (omega (arith, low))

meta_last : (keys : List ℕ) (cs : List Counter) (k : ℕ) (c : Counter) → IsMetaOf keys cs → c.key ≡ k → c.value ≤ greatest_value k
    → IsMetaOf (keys ++ k ∷ []) (cs ++ c ∷ [])
meta_last [] [] k c meta is low = (is, low, tt)
meta_last [] (x ∷ cs) k c meta is low = absurd meta
meta_last (key ∷ keys) [] k c meta is low = absurd meta
meta_last (key ∷ keys) (x ∷ cs) k c meta is low = (meta.0, meta.1, meta_last keys cs k c meta.2 is low)

-- one row more
pub starts_more : (keys : List ℕ) (rows : List Row) (at : ℕ) (row : Row) (key e : ℕ) → at < length rows → at < length keys → row ≡ slice_index_or rows at row
    → key ≡ slice_index_or keys at e
    → ((c : Counter) → row ≡ shown_meta c → c.value < 2 ^ 64 → (c.key ≡ key) × (c.value ≤ greatest_value key)) → StartsWell keys rows at
    → StartsWell keys rows (at + 1)
starts_more keys rows at row key e low few is is_key whole so_far cs same bits =
    let below : at < length (map shown_meta cs) = subst (λ rs. at < length rs) same low in
    let short : at < length cs = subst (λ n. at < n) (length-map cs shown_meta) below in
    let c = slice_index_or cs at no_counter in
    let told = whole c (is ∙ ap (λ rs. slice_index_or rs at row) same ∙ shown_at cs at row below) (bits_there cs at bits short) in
    let more = meta_last (take at keys) (take at cs) key c (so_far cs same bits) told.0 told.1 in
    let key_there : take at keys ++ key ∷ [] ≡ take (at + 1) keys = ap (λ k. take at keys ++ k ∷ []) is_key ∙ sym (take_more keys at e few) in
    subst (λ ks. IsMetaOf ks (take (at + 1) cs)) key_there (subst (IsMetaOf (take at keys ++ key ∷ [])) (sym (take_more cs at no_counter short)) more)

-- ---- single rows

abbrev IsPlaced : List Counter → ℕ → ℕ → Row → Type 0
IsPlaced cs key at d = (c : Counter) × (slice_index_or (map shown_meta cs) at d ≡ shown_meta c) × (at_by counter_key key cs ≡ Some c) × (c.value ≤ greatest_value key)

pub lot_row : (cs : List Counter) (d : Row) → IsMetaOf meta_keys cs → IsPlaced cs 11 4 d
lot_row [] d m = absurd m
lot_row (a ∷ []) d m = absurd m.2
lot_row (a ∷ b ∷ []) d m = absurd m.2.2
lot_row (a ∷ b ∷ c ∷ []) d m = absurd m.2.2.2
lot_row (a ∷ b ∷ c ∷ e ∷ []) d m = absurd m.2.2.2.2
lot_row (a ∷ b ∷ c ∷ e ∷ f ∷ cs) d m = (f, refl, rw (m.0, m.2.0, m.2.2.0, m.2.2.2.0, m.2.2.2.2.0) refl, m.2.2.2.2.1)

pub version_row : (cs : List Counter) → IsMetaOf meta_keys cs → (c : Counter) × (at_by counter_key 16 cs ≡ Some c)
version_row [] m = absurd m
version_row (a ∷ []) m = absurd m.2
version_row (a ∷ b ∷ []) m = absurd m.2.2
version_row (a ∷ b ∷ c ∷ []) m = absurd m.2.2.2
version_row (a ∷ b ∷ c ∷ e ∷ []) m = absurd m.2.2.2.2
version_row (a ∷ b ∷ c ∷ e ∷ f ∷ []) m = absurd m.2.2.2.2.2
version_row (a ∷ b ∷ c ∷ e ∷ f ∷ g ∷ []) m = absurd m.2.2.2.2.2.2
version_row (a ∷ b ∷ c ∷ e ∷ f ∷ g ∷ h ∷ cs) m =
    (h, rw (m.0, m.2.0, m.2.2.0, m.2.2.2.0, m.2.2.2.2.0, m.2.2.2.2.2.0, m.2.2.2.2.2.2.0) refl)

pub bits_found : (k : ℕ) (cs : List Counter) (x : Counter) → AreBits cs → at_by counter_key k cs ≡ Some x → x.value < 2 ^ 64
bits_found k [] x bits found = absurd cc
bits_found k (c ∷ cs) x bits found = elim (cases_Bool (has_by counter_key k c)) [
  | inl here ↦ subst (λ (y : Counter). y.value < 2 ^ 64) (same_some c x (rw here at found)) bits.0
  | inr not_here ↦ bits_found k cs x bits.1 (rw not_here at found)
]
  where
    same_some : (y z : Counter) → ◌≡◌ {A = Option Counter} (Some y) (Some z) → y ≡ z
    same_some y z e = cc

-- ---- another value

same_key : (m n : ℕ) → is_eq (nat_cmp m n) ≡ true → m ≡ n
same_key m n is = grind (arith, nat_tests)

pub meta_set : (key v : ℕ) (keys : List ℕ) (cs : List Counter) → IsMetaOf keys cs → v ≤ greatest_value key
    → IsMetaOf keys (set_by counter_key key (valued v) cs)
meta_set key v [] [] meta low = tt
meta_set key v [] (c ∷ cs) meta low = absurd meta
meta_set key v (k ∷ keys) [] meta low = absurd meta
meta_set key v (k ∷ keys) (c ∷ cs) meta low = elim (cases_Bool (has_by counter_key key c)) [
  | inl here ↦
      subst (λ b. IsMetaOf (k ∷ keys) (cond b (valued v c) c ∷ set_by counter_key key (valued v) cs)) (sym here)
      (meta.0, subst (λ m. v ≤ greatest_value m) (sym (same_key c.key key here) ∙ meta.0) low, meta_set key v keys cs meta.2 low)
  | inr not_here ↦
      subst (λ b. IsMetaOf (k ∷ keys) (cond b (valued v c) c ∷ set_by counter_key key (valued v) cs)) (sym not_here)
      (meta.0, meta.1, meta_set key v keys cs meta.2 low)
]

-- one counter changed, another read
apart : (a b k : ℕ) → is_eq (nat_cmp a b) ≡ true → is_eq (nat_cmp b k) ≡ false → is_eq (nat_cmp a k) ≡ false
apart a b k same other = grind (arith, nat_tests)

pub find_set : (key v k : ℕ) → is_eq (nat_cmp key k) ≡ false → (cs : List Counter) → at_by counter_key k (set_by counter_key key (valued v) cs) ≡ at_by counter_key k cs
find_set key v k other [] = refl
find_set key v k other (c ∷ cs) =
    let more = find_set key v k other cs in
    let rest = set_by counter_key key (valued v) cs in
    elim (cases_Bool (has_by counter_key key c)) [
      | inl here ↦
          let skips : has_by counter_key k c ≡ false = apart c.key key k here other in
          ap (λ b. find (has_by counter_key k) (cond b (valued v c) c ∷ rest)) here
          ∙ ap (λ b. cond b (Some (valued v c)) (find (has_by counter_key k) rest)) skips
          ∙ more
          ∙ sym (ap (λ b. cond b (Some c) (find (has_by counter_key k) cs)) skips)
      | inr not_here ↦
          ap (λ b. find (has_by counter_key k) (cond b (valued v c) c ∷ rest)) not_here
          ∙ ap (λ o. cond (has_by counter_key k c) (Some c) o) more
    ]
