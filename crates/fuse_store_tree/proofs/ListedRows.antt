-- Where the listed pieces lie, read slice by slice.
use Rattle.std.proofs.Common.{◌≡◌, ◌≤◌, ◌<◌, ◌^◌, ◌&&◌, ◌++◌, ◌==◌, inl, inr, ℕ, zero, suc, List, [], ◌∷◌, map, filter, fold, take, drop, length, not, nat_lt, Bool, true, false, cond}
use Rattle.std.proofs.Common.{refl, sym, ap, subst, arith, ◌∙◌}
use Rattle.std.specs.List.{AllByRecursion}
use Rattle.std.specs.Ordering.{is_gt, nat_cmp}
use Rattle.std.proofs.lemmas.Bool.{cases_Bool}
use Rattle.std.proofs.lemmas.Bool.Decides.{nat_tests}
use Rattle.std.proofs.lemmas.List.{map-append}
use Rattle.fuse_data.specs.declared.extent.Extent.{Extent}
use Rattle.fuse_store_tables.specs.Pieces.{Piece}
use Rattle.fuse_store_tables.specs.Slices.{is_listed_above, shown_extent}
use Rattle.fuse_store_tree.specs.Fits.{KeepsPiece}
use Rattle.fuse_store_tree.specs.Listings.{extents_above, last_slot}
use Rattle.fuse_store_tree.specs.Pieces.{extent_of, extents_of, is_zeros}
use Rattle.fuse_store_tree.proofs.Described.{Rises}
use Rattle.fuse_store_tree.proofs.PieceSets.{all_filter, all_weaker}

abbrev slot_of : Piece → ℕ
slot_of p = p.slot

-- ---- pieces above a slot

not_above_self : (p : Piece) (s : ℕ) → p.slot ≤ s → is_listed_above s p ≡ false
not_above_self p s low = by p.slot s (is_gt (nat_cmp p.place 0)) low
  where
    by : (a b : ℕ) (t : Bool) → a ≤ b → (is_gt (nat_cmp a b) && t) ≡ false
    by a b t low = grind (arith, nat_tests)

above : (p : Piece) (s : ℕ) → is_listed_above s p ≡ true → s < p.slot
above p s is = by p.slot s (is_gt (nat_cmp p.place 0)) is
  where
    by : (a b : ℕ) (t : Bool) → (is_gt (nat_cmp a b) && t) ≡ true → b < a
    by a b t is = grind (arith, nat_tests)

both_above : (p : Piece) (s t : ℕ) → s < p.slot → t < p.slot → is_listed_above s p ≡ is_listed_above t p
both_above p s t low high = by p.slot (is_gt (nat_cmp p.place 0)) low high
  where
    by : (a : ℕ) (b : Bool) → s < a → t < a → (is_gt (nat_cmp a s) && b) ≡ (is_gt (nat_cmp a t) && b)
    by a b low high = grind (arith, nat_tests)

same_above : (s t : ℕ) (ps : List Piece) → AllByRecursion (λ p. s < p.slot) ps → AllByRecursion (λ p. t < p.slot) ps
    → filter (is_listed_above s) ps ≡ filter (is_listed_above t) ps
same_above s t [] low high = refl
same_above s t (p ∷ ps) low high =
    ap (λ b. cond b (p ∷ filter (is_listed_above s) ps) (filter (is_listed_above s) ps)) (both_above p s t low.0 high.0)
    ∙ ap (λ l. cond (is_listed_above t p) (p ∷ l) l) (same_above s t ps low.1 high.1)

all_up : (s t : ℕ) → s ≤ t → (ps : List Piece) → AllByRecursion (λ p. t < p.slot) ps → AllByRecursion (λ p. s < p.slot) ps
all_up s t low ps all = all_weaker (λ (p : Piece). t < p.slot) (λ p. s < p.slot) (λ p high. omega (arith, low, high)) ps all

-- those above the first of them
above_first : (s : ℕ) (ps : List Piece) → Rises slot_of ps → (x : Piece) (xs : List Piece) → filter (is_listed_above s) ps ≡ x ∷ xs
    → filter (is_listed_above x.slot) ps ≡ xs
above_first s [] rises x xs is = absurd cc
above_first s (p ∷ ps) rises x xs is = elim (cases_Bool (is_listed_above s p)) [
  | inl here ↦
      let split : p ∷ filter (is_listed_above s) ps ≡ x ∷ xs = rw here at is in
      let first : p ≡ x = head_of p x (filter (is_listed_above s) ps) xs split in
      let low = above p s here in
      subst (λ (y : Piece). filter (is_listed_above y.slot) (p ∷ ps) ≡ xs) first
      (rw (not_above_self p p.slot (omega arith))
      (same_above p.slot s ps rises.0 (all_up s p.slot (omega (arith, low)) ps rises.0) ∙ rest_of p x (filter (is_listed_above s) ps) xs split))
  | inr off ↦
      let rest : filter (is_listed_above s) ps ≡ x ∷ xs = rw off at is in
      let later = subst (AllByRecursion (λ (q : Piece). p.slot < q.slot)) rest (all_filter (λ (q : Piece). p.slot < q.slot) (is_listed_above s) ps rises.0) in
      let low = later.0 in
      rw (not_above_self p x.slot (omega (arith, low))) (above_first s ps rises.1 x xs rest)
]
  where
    head_of : (a b : Piece) (xs ys : List Piece) → a ∷ xs ≡ b ∷ ys → a ≡ b
    head_of a b xs ys e = cc

    rest_of : (a b : Piece) (xs ys : List Piece) → a ∷ xs ≡ b ∷ ys → xs ≡ ys
    rest_of a b xs ys e = cc

-- those above the last one of a slice are the ones after the slice
pub after_slice : (n s : ℕ) (ps : List Piece) → Rises slot_of ps
    → filter (is_listed_above (last_slot s (take n (filter (is_listed_above s) ps)))) ps ≡ drop n (filter (is_listed_above s) ps)
after_slice zero s ps rises = refl
after_slice (suc n) s ps rises = by (λ t. after_slice n t ps rises) (filter (is_listed_above s) ps) refl
  where
    by : ((t : ℕ) → filter (is_listed_above (last_slot t (take n (filter (is_listed_above t) ps)))) ps ≡ drop n (filter (is_listed_above t) ps)) → (l : List Piece)
        → filter (is_listed_above s) ps ≡ l → filter (is_listed_above (last_slot s (take (suc n) l))) ps ≡ drop (suc n) l
    by rest [] is = is
    by rest (x ∷ xs) is =
        let next = above_first s ps rises x xs is in
        subst (λ l. filter (is_listed_above (last_slot x.slot (take n l))) ps ≡ drop n l) next (rest x.slot)

-- ---- slices

above_all : (s : ℕ) (ps : List Piece) → AllByRecursion (λ p. s < p.slot) (filter (is_listed_above s) ps)
above_all s [] = tt
above_all s (p ∷ ps) = elim (cases_Bool (is_listed_above s p)) [
  | inl here ↦ rw here (above p s here, above_all s ps)
  | inr off ↦ rw off (above_all s ps)
]

last_above : (s a : ℕ) (ps : List Piece) → s < a → AllByRecursion (λ p. s < p.slot) ps → s < last_slot a ps
last_above s a [] low all = low
last_above s a (p ∷ ps) low all = last_above s p.slot ps all.0 all.1

-- a slice that isn't empty ends above the slot
pub slice_goes_on : (n s : ℕ) (ps : List Piece) → 1 ≤ length (take n (filter (is_listed_above s) ps)) → s < last_slot s (take n (filter (is_listed_above s) ps))
slice_goes_on n s ps some = by (take n (filter (is_listed_above s) ps)) (all_taken n (filter (is_listed_above s) ps) (above_all s ps)) some
  where
    all_taken : (m : ℕ) (xs : List Piece) → AllByRecursion (λ (p : Piece). s < p.slot) xs → AllByRecursion (λ (p : Piece). s < p.slot) (take m xs)
    all_taken zero xs all = tt
    all_taken (suc m) [] all = tt
    all_taken (suc m) (x ∷ xs) all = (all.0, all_taken m xs all.1)

    by : (l : List Piece) → AllByRecursion (λ (p : Piece). s < p.slot) l → 1 ≤ length l → s < last_slot s l
    by [] all some = absurd (omega (arith, some))
    by (x ∷ xs) all some = last_above s x.slot xs all.0 all.1

whole_slice : {X : Type 0} (n : ℕ) (xs : List X) → length (take n xs) < n → take n xs ≡ xs
whole_slice zero xs low = absurd (omega (arith, low))
whole_slice (suc n) [] low = refl
whole_slice (suc n) (x ∷ xs) low = ap (λ l. x ∷ l) (whole_slice n xs (omega (arith, low)))

both_parts : {X Y : Type 0} (f : X → Y) (n : ℕ) (xs : List X) → map f (take n xs) ++ map f (drop n xs) ≡ map f xs
both_parts f zero xs = refl
both_parts f (suc n) [] = refl
both_parts f (suc n) (x ∷ xs) = ap (λ l. f x ∷ l) (both_parts f n xs)

pub appended : {X : Type 0} (xs ys zs : List X) → (xs ++ ys) ++ zs ≡ xs ++ (ys ++ zs)
appended [] ys zs = refl
appended (x ∷ xs) ys zs = ap (λ l. x ∷ l) (appended xs ys zs)

pub nothing_more : {X : Type 0} (xs : List X) → xs ++ [] ≡ xs
nothing_more [] = refl
nothing_more (x ∷ xs) = ap (λ l. x ∷ l) (nothing_more xs)

below_end : (s : ℕ) → s < 2 ^ 63 → nat_lt s (2 ^ 63) ≡ true
below_end s low = grind (arith, nat_tests)

-- the last slice
pub slice_ends : (n s : ℕ) (ps : List Piece) → s < 2 ^ 63 → length (take n (filter (is_listed_above s) ps)) < n
    → map extent_of (take n (filter (is_listed_above s) ps)) ++ extents_above (2 ^ 63) ps ≡ extents_above s ps
slice_ends n s ps low short =
    rw (below_end s low) (nothing_more (map extent_of (take n (filter (is_listed_above s) ps))) ∙ ap (map extent_of) (whole_slice n (filter (is_listed_above s) ps) short))

-- any other one
pub slice_before : (n s next : ℕ) (ps : List Piece) → Rises slot_of ps → s < 2 ^ 63 → next < 2 ^ 63 → next ≡ last_slot s (take n (filter (is_listed_above s) ps))
    → map extent_of (take n (filter (is_listed_above s) ps)) ++ extents_above next ps ≡ extents_above s ps
slice_before n s next ps rises low below is =
    rw (below_end s low, below_end next below)
    (ap (λ z. map extent_of (take n (filter (is_listed_above s) ps)) ++ map extent_of (filter (is_listed_above z) ps)) is
    ∙ ap (λ l. map extent_of (take n (filter (is_listed_above s) ps)) ++ map extent_of l) (after_slice n s ps rises)
    ∙ both_parts extent_of n (filter (is_listed_above s) ps))

pub sums_taken : (n s : ℕ) (ps : List Piece) → AllByRecursion KeepsPiece ps → AllByRecursion (λ p. p.sum < 2 ^ 64) (take n (filter (is_listed_above s) ps))
sums_taken n s ps all = taken n (filter (is_listed_above s) ps) (all_filter KeepsPiece (is_listed_above s) ps all)
  where
    taken : (m : ℕ) (xs : List Piece) → AllByRecursion KeepsPiece xs → AllByRecursion (λ p. p.sum < 2 ^ 64) (take m xs)
    taken zero xs all = tt
    taken (suc m) [] all = tt
    taken (suc m) (x ∷ xs) all = (all.0.sum, taken m xs all.1)

pub taken_rows : (n : ℕ) (xs : List Piece) → take n (map shown_extent xs) ≡ map shown_extent (take n xs)
taken_rows zero xs = refl
taken_rows (suc n) [] = refl
taken_rows (suc n) (x ∷ xs) = ap (λ l. shown_extent x ∷ l) (taken_rows n xs)

-- ---- all of them

all_listed : (ps : List Piece) → AllByRecursion KeepsPiece ps → filter (is_listed_above 0) ps ≡ filter (λ p. not (is_zeros p)) ps
all_listed [] all = refl
all_listed (p ∷ ps) all =
    ap (λ b. cond b (p ∷ filter (is_listed_above 0) ps) (filter (is_listed_above 0) ps)) (by p.slot p.place all.0.slot)
    ∙ ap (λ l. cond (not (is_zeros p)) (p ∷ l) l) (all_listed ps all.1)
  where
    by : (a b : ℕ) → 1 ≤ a → (is_gt (nat_cmp a 0) && is_gt (nat_cmp b 0)) ≡ not (b == 0)
    by a b some = grind (arith, nat_tests)

pub all_above_none : (ps : List Piece) → AllByRecursion KeepsPiece ps → extents_above 0 ps ≡ extents_of ps
all_above_none ps all = ap (map extent_of) (all_listed ps all)

-- ---- rows

-- a row that shows where a piece lies, as one that shows a piece
abbrev pub as_piece : Piece → Piece
as_piece p = record { slot = 0; node = 0; first = p.slot; count = p.count; place = p.place; sum = p.sum }

last_pushed : (s : ℕ) (xs : List Piece) (p : Piece) → last_slot s (xs ++ p ∷ []) ≡ p.slot
last_pushed s [] p = refl
last_pushed s (x ∷ xs) p = last_pushed x.slot xs p

pub last_more : (s : ℕ) (ps taken : List Piece) (i : ℕ) (p : Piece) → taken ≡ take i ps ++ p ∷ [] → last_slot s taken ≡ p.slot
last_more s ps taken i p is = ap (last_slot s) is ∙ last_pushed s (take i ps) p

pub extents_more : (es news : List Extent) (ps taken : List Piece) (i : ℕ) (p : Piece) (e : Extent) → news ≡ (es ++ map extent_of (take i ps)) ++ e ∷ [] → e ≡ extent_of p
    → taken ≡ take i ps ++ p ∷ [] → news ≡ es ++ map extent_of taken
extents_more es news ps taken i p e are is all =
    are ∙ ap (λ x. (es ++ map extent_of (take i ps)) ++ x ∷ []) is ∙ appended es (map extent_of (take i ps)) (extent_of p ∷ [])
    ∙ ap (λ l. es ++ l) (sym (map-append extent_of (take i ps) (p ∷ []))) ∙ ap (λ l. es ++ map extent_of l) (sym all)

-- no slot of 63 bits is above
pub none_above : (s : ℕ) (ps : List Piece) → 2 ^ 63 ≤ s → extents_above s ps ≡ []
none_above s ps high = rw (far s high) refl
  where
    far : (s : ℕ) → 2 ^ 63 ≤ s → nat_lt s (2 ^ 63) ≡ false
    far s high = grind (arith, nat_tests)
