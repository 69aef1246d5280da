-- What the tables may list of a data file: whole extents lie in blocks that aren't hidden, and have the bytes of the data file there.
use Rattle.std.proofs.Common.{◌≡◌, ◌≢◌, ◌≤◌, ◌<◌, ◌+◌, ◌-◌, ◌*◌, ◌/◌, ◌==◌, ◌&&◌, inl, inr, ℕ, zero, suc, List, [], ◌∷◌, take, drop, length, length-drop, not, nat_lt}
use Rattle.std.proofs.Common.{Bool, true, false, cond, refl, sym, ap, subst, arith, ◌∙◌}
use Rattle.std.specs.Prelude.{◌||◌, nat_le, slice_index_or}
use Rattle.std.specs.List.{All, list_any}
use Rattle.std.proofs.lemmas.Bool.{cases_Bool, cases_lt}
use Rattle.std.proofs.lemmas.Bool.Decides.{nat_tests}
use Rattle.std.proofs.lemmas.List.{ext_get_or, get_or-take, get_or-drop, get_or_past, length-take-le}
use Rattle.sqlite_disk.specs.Disk.{Holds}
use Rattle.fuse_wire.specs.Bytes.{le}
use Rattle.fuse_rows.specs.Bounds.{block_bytes}
use Rattle.fuse_data.specs.declared.extent.Extent.{Extent}
use Rattle.fuse_data.specs.declared.gaps.Gap.{Gap}
use Rattle.fuse_data.specs.Extents.{past, IsBlockOf, IsPlaced, IsWhole, IsKept, AreBytes, bytes_of, sum_of}
use Rattle.fuse_data.specs.Header.{HasHeader, header_of}
use Rattle.fuse_data.specs.Leaving.{KeepsInUse}
use Rattle.fuse_data.specs.Space.{IsFreeBlock, InUse}
use Rattle.fuse_store_tree.specs.declared.store_data.Written.{Written}
use Rattle.fuse_store_tree.specs.Viewing.{is_in_gap, is_block_of, is_unlisted_at, is_hidden, shown_from, shown}

-- ---- by places

shown_len : (hides : ℕ → Bool) (i : ℕ) (xs : List ℕ) → length (shown_from hides i xs) ≡ length xs
shown_len hides i [] = refl
shown_len hides i (x ∷ xs) = ap suc (shown_len hides (suc i) xs)

shown_at : (hides : ℕ → Bool) (i : ℕ) (xs : List ℕ) (k : ℕ) → k < length xs
    → slice_index_or (shown_from hides i xs) k 0 ≡ cond (hides ((i + k) / block_bytes)) 256 (slice_index_or xs k 0)
shown_at hides i [] k low = absurd (omega (arith, low))
shown_at hides i (x ∷ xs) zero low = ap (λ n. cond (hides (n / block_bytes)) 256 x) (let e : i ≡ i + 0 = omega arith in e)
shown_at hides i (x ∷ xs) (suc k) low =
    shown_at hides (suc i) xs k (omega (arith, low))
    ∙ ap (λ n. cond (hides (n / block_bytes)) 256 (slice_index_or xs k 0)) (let e : suc i + k ≡ i + suc k = omega arith in e)

-- no block of the extent is hidden
abbrev pub IsOpen : (ℕ → Bool) → Extent → Type 0
IsOpen hides e = (b : ℕ) → IsBlockOf e b → hides b ≡ false

pub bytes_len : (file : List ℕ) (e : Extent) → past e * block_bytes ≤ length file → length (bytes_of file e) ≡ e.count * block_bytes
bytes_len file e within =
    let n : ℕ = e.count * block_bytes in
    let at : ℕ = e.place * block_bytes in
    length-take-le n (drop at file) (omega (arith, length-drop at file))

byte_of : (file : List ℕ) (e : Extent) (i : ℕ) → i < e.count * block_bytes → slice_index_or (bytes_of file e) i 0 ≡ slice_index_or file (e.place * block_bytes + i) 0
byte_of file e i low = get_or-take (e.count * block_bytes) (drop (e.place * block_bytes) file) i 0 low ∙ get_or-drop (e.place * block_bytes) file i 0

header_long : (store : ℕ) → length (header_of store) ≡ 32
unfolding le
header_long store = refl

module _ (hides : ℕ → Bool) (file : List ℕ) where
  abbrev view : List ℕ
  view = shown_from hides 0 file

  same_length : length view ≡ length file
  same_length = shown_len hides 0 file

  shown_first : (k : ℕ) → k < length file → slice_index_or view k 0 ≡ cond (hides (k / block_bytes)) 256 (slice_index_or file k 0)
  shown_first k low = shown_at hides 0 file k low ∙ ap (λ n. cond (hides (n / block_bytes)) 256 (slice_index_or file k 0)) (let e : 0 + k ≡ k = omega arith in e)

  -- a block of a whole extent isn't hidden
  pub whole_open : (e : Extent) → IsWhole view e → IsOpen hides e
  whole_open e whole b block = elim (cases_Bool (hides b)) [
    | inr is ↦ is
    | inl is ↦
        let i : ℕ = (b - e.place) * block_bytes in
        let low : i < e.count * block_bytes = omega (arith, block.0, block.1) in
        let at : e.place * block_bytes + i ≡ b * block_bytes = omega (arith, block.0) in
        let inside : b * block_bytes < length file = omega (arith, whole.within, same_length, block.1) in
        let same_block : b * block_bytes / block_bytes ≡ b = omega arith in
        let read : slice_index_or (bytes_of view e) i 0 ≡ 256 =
        byte_of view e i low ∙ ap (λ n. slice_index_or view n 0) at ∙ shown_first (b * block_bytes) inside
        ∙ ap (λ n. cond (hides n) 256 (slice_index_or file (b * block_bytes) 0)) same_block
        ∙ ap (λ t. cond t 256 (slice_index_or file (b * block_bytes) 0)) is in
        absurd (omega (arith, whole.bytes i, read))
  ]

  -- it has the bytes of the data file there
  pub open_same : (e : Extent) → IsOpen hides e → past e * block_bytes ≤ length file → bytes_of view e ≡ bytes_of file e
  open_same e is within =
      let len = bytes_len view e (omega (arith, within, same_length)) in
      ext_get_or 0 (bytes_of view e) (bytes_of file e) (len ∙ sym (bytes_len file e within)) (λ i low.
      let short : i < e.count * block_bytes = omega (arith, low, len) in
      let n : ℕ = e.place * block_bytes + i in
      let block : IsBlockOf e (n / block_bytes) = (omega arith, omega (arith, short)) in
      byte_of view e i short ∙ shown_first n (omega (arith, short, within))
      ∙ ap (λ t. cond t 256 (slice_index_or file n 0)) (is (n / block_bytes) block) ∙ sym (byte_of file e i short))

  pub whole_view : (e : Extent) → IsOpen hides e → IsWhole file e → IsWhole view e
  whole_view e is whole =
      let same = open_same e is whole.within in
      record {
        placed = whole.placed;
        within = omega (arith, whole.within, same_length);
        bytes = subst AreBytes (sym same) whole.bytes;
        sum = ap sum_of same ∙ whole.sum;
      }

  pub view_same : (e : Extent) → IsWhole view e → bytes_of view e ≡ bytes_of file e
  view_same e whole = open_same e (whole_open e whole) (omega (arith, whole.within, same_length))

  pub view_whole : (e : Extent) → IsWhole view e → IsWhole file e
  view_whole e whole =
      let same = view_same e whole in
      record {
        placed = whole.placed;
        within = omega (arith, whole.within, same_length);
        bytes = subst AreBytes same whole.bytes;
        sum = ap sum_of (sym same) ∙ whole.sum;
      }

  -- block 0 is never hidden
  first_same : hides 0 ≡ false → (i : ℕ) → i < 32 → i < length file → slice_index_or view i 0 ≡ slice_index_or file i 0
  first_same none i low inside =
      let here : i / block_bytes ≡ 0 = omega (arith, low) in
      shown_first i inside ∙ ap (λ n. cond (hides n) 256 (slice_index_or file i 0)) here ∙ ap (λ t. cond t 256 (slice_index_or file i 0)) none

  from_first : (i : ℕ) → 0 + i ≡ i
  from_first i = omega arith

  pub header_shown : hides 0 ≡ false → (store : ℕ) → HasHeader store file → HasHeader store view
  header_shown none store had = record {
    within = omega (arith, had.within, same_length);
    each = λ i low. ap (λ n. slice_index_or view n 0) (from_first i)
        ∙ first_same none i (omega (arith, low, header_long store)) (omega (arith, low, had.within)) ∙ ap (λ n. slice_index_or file n 0) (sym (from_first i)) ∙ had.each i low;
  }

  pub header_there : hides 0 ≡ false → (store : ℕ) → HasHeader store view → HasHeader store file
  header_there none store had = record {
    within = omega (arith, had.within, same_length);
    each = λ i low. ap (λ n. slice_index_or file n 0) (from_first i)
        ∙ sym (first_same none i (omega (arith, low, header_long store)) (omega (arith, low, had.within, same_length))) ∙ ap (λ n. slice_index_or view n 0) (sym (from_first i))
        ∙ had.each i low;
  }

-- ---- as blocks come into reach, or the data file changes out of reach

module _ (was is : ℕ → Bool) (old new : List ℕ) (first_was : was 0 ≡ false) (first_is : is 0 ≡ false)
    (opens : (b : ℕ) → was b ≡ false → is b ≡ false) where
  pub view_kept : ((store : ℕ) → HasHeader store old → HasHeader store new)
      → ((e : Extent) → IsOpen was e → IsWhole old e → IsKept old new e) → KeepsInUse [] (shown_from was 0 old) (shown_from is 0 new)
  view_kept headers kept = record {
    header = λ store had. header_shown is new first_is store (headers store (header_there was old first_was store had));
    extents = λ e free whole.
        let reach = whole_open was old e whole in
        let now = kept e reach (view_whole was old e whole) in
        let after : IsOpen is e = λ b block. opens b (reach b block) in
        record {
          whole = whole_view is new e after now.whole;
          same = open_same is new e after now.whole.within ∙ now.same ∙ sym (view_same was old e whole);
        };
  }

-- ---- free blocks

pub low_of : (a b : ℕ) (t : Bool) → (nat_le a b && t) ≡ true → a ≤ b
low_of a b t is = grind (arith, nat_tests)

pub high_of : (b c : ℕ) (t : Bool) → (t && nat_lt b c) ≡ true → b < c
high_of b c t is = grind (arith, nat_tests)

pub both_of : (a b c : ℕ) → a ≤ b → b < c → (nat_le a b && nat_lt b c) ≡ true
both_of a b c low high = grind (arith, nat_tests)

free_there : (gaps : List Gap) (b : ℕ) → list_any (is_in_gap b) gaps ≡ true → IsFreeBlock gaps b
free_there [] b is = absurd cc
free_there (g ∷ gaps) b is = elim (cases_Bool (is_in_gap b g)) [
  | inl here ↦ inl (low_of g.from b (nat_lt b g.to) here, high_of b g.to (nat_le g.from b) here)
  | inr other ↦ inr (free_there gaps b (rw other at is))
]

free_found : (gaps : List Gap) (b : ℕ) → IsFreeBlock gaps b → list_any (is_in_gap b) gaps ≡ true
free_found [] b free = absurd free
free_found (g ∷ gaps) b free = elim free [
  | inl here ↦ rw (both_of g.from b g.to here.0 here.1) refl
  | inr other ↦ either (is_in_gap b g) (list_any (is_in_gap b) gaps) (free_found gaps b other)
]
  where
    either : (x y : Bool) → y ≡ true → (x || y) ≡ true
    either true y is = refl
    either false y is = is

pub unfound : (gaps : List Gap) (b : ℕ) → ¬ IsFreeBlock gaps b → list_any (is_in_gap b) gaps ≡ false
unfound gaps b none = elim (cases_Bool (list_any (is_in_gap b) gaps)) [ inl is ↦ absurd (none (free_there gaps b is)) | inr is ↦ is ]

pub unfree : (gaps : List Gap) (b : ℕ) → list_any (is_in_gap b) gaps ≡ false → ¬ IsFreeBlock gaps b
unfree gaps b is free = let found = free_found gaps b free in absurd cc

-- ---- hidden blocks

pub first_open : (gaps : List Gap) (written : List Written) → is_hidden gaps written 0 ≡ false
first_open gaps written = refl

pub open_parts : (gaps : List Gap) (written : List Written) (b : ℕ) → 1 ≤ b → is_hidden gaps written b ≡ false
    → (list_any (is_in_gap b) gaps ≡ false) × (list_any (is_unlisted_at b) written ≡ false)
open_parts gaps written b low is = by (nat_lt 0 b) (list_any (is_in_gap b) gaps) (list_any (is_unlisted_at b) written) (positive b low) is
  where
    positive : (k : ℕ) → 1 ≤ k → nat_lt 0 k ≡ true
    positive k some = grind (arith, nat_tests)

    by : (t x y : Bool) → t ≡ true → (t && (x || y)) ≡ false → (x ≡ false) × (y ≡ false)
    by true true y on is = absurd cc
    by true false y on is = (refl, is)
    by false x y on is = absurd cc

pub open_of : (gaps : List Gap) (written : List Written) (b : ℕ) → list_any (is_in_gap b) gaps ≡ false → list_any (is_unlisted_at b) written ≡ false
    → is_hidden gaps written b ≡ false
open_of gaps written b free unlisted = rw (free, unlisted) (by (nat_lt 0 b))
  where
    by : (t : Bool) → (t && false) ≡ false
    by true = refl
    by false = refl

-- an extent that can be listed is in use
pub whole_in_use : (gaps : List Gap) (written : List Written) (file : List ℕ) (e : Extent) → IsWhole (shown gaps written file) e → InUse gaps e
whole_in_use gaps written file e whole b block =
    unfree gaps b (open_parts gaps written b (omega (arith, whole.placed.place, block.0)) (whole_open (is_hidden gaps written) file e whole b block)).0

-- and where nothing was written, one that is in use can be listed
pub in_use_open : (gaps : List Gap) (e : Extent) → InUse gaps e → IsOpen (is_hidden gaps []) e
in_use_open gaps e used b block = open_of gaps [] b (unfound gaps b (used b block)) refl
