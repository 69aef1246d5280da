-- An extent is taken at the head of a gap.
use Rattle.std.proofs.Common.{◌≡◌, ℕ, ◌+◌, ◌<◌, ◌≤◌, ◌^◌, List, ◌∷◌, ◌++◌, suc, length, take, drop, slice_index_or, slice_set, refl, sym, subst, ap, ◌∙◌, inl, inr, arith}
use Rattle.std.specs.List.{remove}
use Rattle.std.proofs.lemmas.List.{set_split, get_or_default}
use Rattle.fuse_data.specs.declared.extent.Extent.{Extent}
use Rattle.fuse_data.specs.declared.extent.TheConstants.{END}
use Rattle.fuse_data.specs.declared.gaps.Gap.{Gap}
use Rattle.fuse_data.specs.Extents.{past}
use Rattle.fuse_data.specs.Space.{IsFreeExtent, AreGaps, HeadsGap, TakesOut}
use Rattle.fuse_data.proofs.Blocks.{head_free, takes_out}
use Rattle.fuse_data.proofs.Order.{gap_cut, gaps_shrink, gaps_without}

pub sum_fits : (a b : ℕ) → a + b ≤ END → a + b < 2 ^ 64
sum_fits a b h = omega arith

begins_at : (gaps : List Gap) (i : ℕ) (g : Gap) (p : Extent) → HeadsGap gaps i p → g ≡ slice_index_or gaps i g → g.from ≡ p.place
begins_at gaps i g p head is = ap (λ (x : Gap). x.from) is ∙ head.begins g

ends_within : (gaps : List Gap) (i : ℕ) (g : Gap) (p : Extent) → HeadsGap gaps i p → g ≡ slice_index_or gaps i g → past p ≤ g.to
ends_within gaps i g p head is = subst (λ (x : Gap). past p ≤ x.to) (sym is) (head.ends g)

pub head_is_free : (gaps : List Gap) (i : ℕ) (p : Extent) → HeadsGap gaps i p → IsFreeExtent gaps p
head_is_free gaps i p head =
    let d : Gap = record { from = 0; to = 0 } in
    let g : Gap = slice_index_or gaps i d in
    let is : g ≡ slice_index_or gaps i g = get_or_default gaps i d g head.within in
    let cut : gaps ≡ take i gaps ++ g ∷ drop (suc i) gaps = gap_cut gaps i (suc i) g head.within refl is in
    subst (λ (l : List Gap). IsFreeExtent l p) (sym cut) (head_free (take i gaps) (drop (suc i) gaps) g p (begins_at gaps i g p head is) (ends_within gaps i g p head is))

pub head_taken : (gaps : List Gap) (i : ℕ) (g : Gap) (p : Extent) → AreGaps 1 gaps → HeadsGap gaps i p → g ≡ slice_index_or gaps i g → TakesOut p gaps (slice_set gaps i (record { from = past p; to = g.to }))
head_taken gaps i g p h head is =
    let xs = take i gaps in
    let ys = drop (suc i) gaps in
    let left : Gap = record { from = past p; to = g.to } in
    let cut : gaps ≡ xs ++ g ∷ ys = gap_cut gaps i (suc i) g head.within refl is in
    let whole : AreGaps 1 (xs ++ g ∷ ys) = subst (AreGaps 1) cut h in
    let taken : TakesOut p (xs ++ g ∷ ys) (xs ++ left ∷ ys) = takes_out 1 xs ys (left ∷ ys) g p whole (begins_at gaps i g p head is) (ends_within gaps i g p head is) (λ b. (λ f. f, λ f. f)) in
    subst (λ (l : List Gap). TakesOut p l (slice_set gaps i left)) (sym cut) (subst (TakesOut p (xs ++ g ∷ ys)) (sym (set_split gaps i left head.within)) taken)

pub head_sound : (gaps : List Gap) (i : ℕ) (g : Gap) (p : Extent) → AreGaps 1 gaps → HeadsGap gaps i p → g ≡ slice_index_or gaps i g → past p < g.to → AreGaps 1 (slice_set gaps i (record { from = past p; to = g.to }))
head_sound gaps i g p h head is some =
    let xs = take i gaps in
    let ys = drop (suc i) gaps in
    let cut : gaps ≡ xs ++ g ∷ ys = gap_cut gaps i (suc i) g head.within refl is in
    let begins = begins_at gaps i g p head is in
    subst (AreGaps 1) (sym (set_split gaps i (record { from = past p; to = g.to }) head.within)) (gaps_shrink 1 (past p) xs ys g (omega arith) some (subst (AreGaps 1) cut h))

pub whole_taken : (gaps : List Gap) (i : ℕ) (g : Gap) (p : Extent) → AreGaps 1 gaps → HeadsGap gaps i p → g ≡ slice_index_or gaps i g → g.to ≤ past p → TakesOut p gaps (remove gaps i)
whole_taken gaps i g p h head is all =
    let xs = take i gaps in
    let ys = drop (suc i) gaps in
    let cut : gaps ≡ xs ++ g ∷ ys = gap_cut gaps i (suc i) g head.within refl is in
    let whole : AreGaps 1 (xs ++ g ∷ ys) = subst (AreGaps 1) cut h in
    let taken : TakesOut p (xs ++ g ∷ ys) (xs ++ ys) = takes_out 1 xs ys ys g p whole (begins_at gaps i g p head is) (ends_within gaps i g p head is)
    (λ b. (λ f. inr f, λ e. elim e [ inl none ↦ absurd (omega (arith, none.0, none.1)) | inr f ↦ f ])) in
    subst (λ (l : List Gap). TakesOut p l (xs ++ ys)) (sym cut) taken

pub whole_sound : (gaps : List Gap) (i : ℕ) (g : Gap) → AreGaps 1 gaps → i < length gaps → g ≡ slice_index_or gaps i g → AreGaps 1 (remove gaps i)
whole_sound gaps i g h low is = gaps_without 1 (take i gaps) (drop (suc i) gaps) g (subst (AreGaps 1) (gap_cut gaps i (suc i) g low refl is) h)
