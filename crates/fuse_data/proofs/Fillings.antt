-- An extent that becomes free makes one gap with the gaps that it touches.
use Rattle.std.proofs.Common.{◌≡◌, ◌⊎◌, ◌↔◌, ℕ, ◌+◌, ◌<◌, ◌≤◌, List, [], ◌∷◌, ◌++◌, length, take, drop, slice_index_or, refl, sym, subst, ap, ◌∙◌, inl, inr, arith, add-zero, length-drop}
use Rattle.std.proofs.lemmas.Bool.{cases_lt}
use Rattle.std.proofs.lemmas.List.{take-append-drop, get_or-drop, get_or_default}
use Rattle.fuse_data.specs.declared.extent.Extent.{Extent}
use Rattle.fuse_data.specs.declared.gaps.Gap.{Gap}
use Rattle.fuse_data.specs.Extents.{past, IsPlaced, IsBlockOf}
use Rattle.fuse_data.specs.Space.{IsWithin, IsFreeBlock, AreGaps, InUse, PutsIn}
use Rattle.fuse_data.specs.inner.Filling.{Fills}
use Rattle.fuse_data.proofs.Blocks.{free_right, free_cases, free_low, free_before, gap_low, gaps_at, puts_in}
use Rattle.fuse_data.proofs.Order.{EndBefore, gap_first, gaps_rise, gaps_with, gaps_right, gaps_after, ends_before, ends_below, free_ends, gap_cut, two_cut}

-- the gaps from one on begin after a block, if the first of them does
drop_after : (gaps : List Gap) (i n : ℕ) → AreGaps 0 (drop i gaps) → ((d : Gap) → i < length gaps → n ≤ (slice_index_or gaps i d).from) → AreGaps n (drop i gaps)
drop_after gaps i n h next =
    gaps_after n (drop i gaps) h (λ d some.
    let there : i < length gaps = omega (arith, length-drop i gaps) in
    subst (λ (g : Gap). n ≤ g.from) (sym (get_or-drop i gaps 0 d ∙ ap (λ (k : ℕ). slice_index_or gaps k d) (add-zero i))) (next d there))

-- it touches none
pub alone : (gaps : List Gap) (i : ℕ) (p : Extent) → AreGaps 1 gaps → IsPlaced p → i ≤ length gaps → ((k : ℕ) (d : Gap) → k < i → (slice_index_or gaps k d).to < p.place) → ((d : Gap) → i < length gaps → past p < (slice_index_or gaps i d).from)
    → Fills p gaps (record { at = i; after = i; gap = record { from = p.place; to = past p } })
alone gaps i p h placed low below next =
    let g : Gap = record { from = p.place; to = past p } in
    let xs = take i gaps in
    let ys = drop i gaps in
    let cut : xs ++ ys ≡ gaps = take-append-drop i gaps in
    let whole : AreGaps 1 (xs ++ ys) = subst (AreGaps 1) (sym cut) h in
    let ends : EndBefore xs p.place = ends_below p.place i gaps low below in
    let after : AreGaps (past p + 1) ys = drop_after gaps i (past p + 1) (gaps_right 1 xs ys whole) (λ d there. let n = next d there in omega arith) in
    let same = λ (b : ℕ). let it : IsWithin g b ↔ (IsFreeBlock [] b ⊎ IsBlockOf p b) = (λ here. inr here, λ e. elim e [ inl none ↦ absurd none | inr mine ↦ mine ]) in it in
    record {
      low = omega arith;
      few = omega arith;
      within = low;
      in_use = λ b block free. elim (free_cases xs ys b (subst (λ (l : List Gap). IsFreeBlock l b) (sym cut) free)) [
        | inl left ↦ let n = free_ends p.place b xs ends left in omega (arith, block.0)
        | inr right ↦ let n = free_low (past p + 1) b ys after right in omega (arith, block.1)
      ];
      exact = subst (λ (l : List Gap). PutsIn p l (xs ++ g ∷ ys)) cut (puts_in xs [] ys g p same);
      sound = gaps_with 1 xs ys ys g whole ends placed.place (omega (arith, placed.some)) placed.low after;
    }

-- a gap begins where it ends
pub before_gap : (gaps : List Gap) (i : ℕ) (p : Extent) (e : Gap) → AreGaps 1 gaps → IsPlaced p → i < length gaps → ((k : ℕ) (d : Gap) → k < i → (slice_index_or gaps k d).to < p.place) → past p ≤ (slice_index_or gaps i e).from → (slice_index_or gaps i e).from ≤ past p
    → Fills p gaps (record { at = i; after = i + 1; gap = record { from = p.place; to = (slice_index_or gaps i e).to } })
before_gap gaps i p e h placed low below least most =
    let r : Gap = slice_index_or gaps i e in
    let touch : r.from ≡ past p = omega arith in
    let is : r ≡ slice_index_or gaps i r = get_or_default gaps i e r low in
    let g : Gap = record { from = p.place; to = r.to } in
    let xs = take i gaps in
    let ys = drop (i + 1) gaps in
    let cut : gaps ≡ xs ++ r ∷ ys = gap_cut gaps i (i + 1) r low (omega arith) is in
    let whole : AreGaps 1 (xs ++ r ∷ ys) = subst (AreGaps 1) cut h in
    let ends : EndBefore xs p.place = ends_below p.place i gaps (omega arith) below in
    let at = gaps_at 1 xs ys r whole in
    let same = λ (b : ℕ). let it : IsWithin g b ↔ (IsFreeBlock (r ∷ []) b ⊎ IsBlockOf p b) = (
      λ here. elim (cases_lt b (past p)) [ inl mine ↦ inr (here.0, mine) | inr his ↦ inl (inl (omega arith, here.1)) ],
      λ e. elim e [ inl (inl his) ↦ (omega (arith, his.0), his.1) | inl (inr none) ↦ absurd none | inr mine ↦ (mine.0, omega (arith, mine.1, at.1)) ],
    ) in it in
    record {
      low = omega arith;
      few = omega arith;
      within = omega arith;
      in_use = λ b block free. elim (free_cases xs (r ∷ ys) b (subst (λ (l : List Gap). IsFreeBlock l b) cut free)) [
        | inl left ↦ let n = free_ends p.place b xs ends left in omega (arith, block.0)
        | inr right ↦ let n = free_low r.from b (r ∷ ys) at right in omega (arith, block.1)
      ];
      exact = subst (λ (l : List Gap). PutsIn p l (xs ++ g ∷ ys)) (sym cut) (puts_in xs (r ∷ []) ys g p same);
      sound = gaps_with 1 xs (r ∷ ys) ys g whole ends placed.place (omega (arith, placed.some, at.1)) at.2 at.3;
    }

-- a gap ends where it begins
pub behind_gap : (gaps : List Gap) (i : ℕ) (p : Extent) (l : Gap) → AreGaps 1 gaps → IsPlaced p → i < length gaps → l ≡ slice_index_or gaps i l → l.to ≡ p.place → ((d : Gap) → i + 1 < length gaps → past p < (slice_index_or gaps (i + 1) d).from)
    → Fills p gaps (record { at = i; after = i + 1; gap = record { from = l.from; to = past p } })
behind_gap gaps i p l h placed low is touch next =
    let g : Gap = record { from = l.from; to = past p } in
    let xs = take i gaps in
    let ys = drop (i + 1) gaps in
    let cut : gaps ≡ xs ++ l ∷ ys = gap_cut gaps i (i + 1) l low (omega arith) is in
    let whole : AreGaps 1 (xs ++ l ∷ ys) = subst (AreGaps 1) cut h in
    let at = gaps_at 1 xs ys l whole in
    let after : AreGaps (past p + 1) ys = drop_after gaps (i + 1) (past p + 1) (gaps_right (l.to + 1) [] ys at.3) (λ d there. let n = next d there in omega arith) in
    let same = λ (b : ℕ). let it : IsWithin g b ↔ (IsFreeBlock (l ∷ []) b ⊎ IsBlockOf p b) = (
      λ here. elim (cases_lt b p.place) [ inl his ↦ inl (inl (here.0, omega arith)) | inr mine ↦ inr (mine, here.1) ],
      λ e. elim e [ inl (inl his) ↦ (his.0, omega (arith, his.1, placed.some)) | inl (inr none) ↦ absurd none | inr mine ↦ (omega (arith, mine.0, at.1), mine.1) ],
    ) in it in
    record {
      low = omega arith;
      few = omega arith;
      within = omega arith;
      in_use = λ b block free. elim (free_cases xs (l ∷ ys) b (subst (λ (m : List Gap). IsFreeBlock m b) cut free)) [
        | inl left ↦ let n = free_before 1 b xs ys l whole left in omega (arith, block.0, at.1)
        | inr (inl here) ↦ omega (arith, block.0, here.1)
        | inr (inr right) ↦ let n = free_low (past p + 1) b ys after right in omega (arith, block.1)
      ];
      exact = subst (λ (m : List Gap). PutsIn p m (xs ++ g ∷ ys)) (sym cut) (puts_in xs (l ∷ []) ys g p same);
      sound = gaps_with 1 xs (l ∷ ys) ys g whole (ends_before 1 xs ys l whole) (gap_low 1 xs ys l whole) (omega (arith, placed.some, at.1)) placed.low after;
    }

-- both
pub between_gaps : (gaps : List Gap) (i : ℕ) (p : Extent) (l e : Gap) → AreGaps 1 gaps → IsPlaced p → i + 1 < length gaps → l ≡ slice_index_or gaps i l → l.to ≡ p.place → past p ≤ (slice_index_or gaps (i + 1) e).from → (slice_index_or gaps (i + 1) e).from ≤ past p
    → Fills p gaps (record { at = i; after = i + 2; gap = record { from = l.from; to = (slice_index_or gaps (i + 1) e).to } })
between_gaps gaps i p l e h placed low is touch least most =
    let r : Gap = slice_index_or gaps (i + 1) e in
    let touch' : r.from ≡ past p = omega arith in
    let is' : r ≡ slice_index_or gaps (i + 1) r = get_or_default gaps (i + 1) e r low in
    let g : Gap = record { from = l.from; to = r.to } in
    let xs = take i gaps in
    let ys = drop (i + 2) gaps in
    let cut : gaps ≡ xs ++ l ∷ r ∷ ys = two_cut gaps i (i + 2) l r low refl is is' in
    let whole : AreGaps 1 (xs ++ l ∷ r ∷ ys) = subst (AreGaps 1) cut h in
    let at = gaps_at 1 xs (r ∷ ys) l whole in
    let same = λ (b : ℕ). let it : IsWithin g b ↔ (IsFreeBlock (l ∷ r ∷ []) b ⊎ IsBlockOf p b) = (
      λ here. elim (cases_lt b p.place) [
        | inl first ↦ inl (inl (here.0, omega arith))
        | inr later ↦ elim (cases_lt b (past p)) [ inl mine ↦ inr (later, mine) | inr last ↦ inl (inr (inl (omega arith, here.1))) ]
      ],
      λ e. elim e [
        | inl (inl first) ↦ (first.0, omega (arith, first.1, placed.some, at.3.1))
        | inl (inr (inl last)) ↦ (omega (arith, last.0, placed.some, at.1), last.1)
        | inl (inr (inr none)) ↦ absurd none
        | inr mine ↦ (omega (arith, mine.0, at.1), omega (arith, mine.1, at.3.1))
      ],
    ) in it in
    record {
      low = omega arith;
      few = omega arith;
      within = omega arith;
      in_use = λ b block free. elim (free_cases xs (l ∷ r ∷ ys) b (subst (λ (m : List Gap). IsFreeBlock m b) cut free)) [
        | inl left ↦ let n = free_before 1 b xs (r ∷ ys) l whole left in omega (arith, block.0, at.1)
        | inr (inl here) ↦ omega (arith, block.0, here.1)
        | inr (inr right) ↦ let n = free_low r.from b (r ∷ ys) (omega arith, at.3.1, at.3.2, at.3.3) right in omega (arith, block.1)
      ];
      exact = subst (λ (m : List Gap). PutsIn p m (xs ++ g ∷ ys)) (sym cut) (puts_in xs (l ∷ r ∷ []) ys g p same);
      sound = gaps_with 1 xs (l ∷ r ∷ ys) ys g whole (ends_before 1 xs (r ∷ ys) l whole) (gap_low 1 xs (r ∷ ys) l whole) (omega (arith, placed.some, at.1, at.3.1)) at.3.2 at.3.3;
    }

-- a gap has a block of it
pub overlaps : (gaps : List Gap) (i : ℕ) (p : Extent) (e : Gap) → AreGaps 1 gaps → i < length gaps → 1 ≤ p.count → (slice_index_or gaps i e).from < past p → p.place < (slice_index_or gaps i e).to → InUse gaps p → ⊥
overlaps gaps i p e h low some begins ends used =
    let g : Gap = slice_index_or gaps i e in
    let is : g ≡ slice_index_or gaps i g = get_or_default gaps i e g low in
    let wide : g.from < g.to = (gap_first 1 gaps i e low h).1 in
    let cut = gap_cut gaps i (i + 1) g low (omega arith) is in
    let free = λ (b : ℕ) (here : IsWithin g b). subst (λ (m : List Gap). IsFreeBlock m b) (sym cut) (free_right (take i gaps) (g ∷ drop (i + 1) gaps) b (inl here)) in
    elim (cases_lt g.from p.place) [
      | inl before ↦ used p.place (omega arith, omega arith) (free p.place (omega arith, ends))
      | inr after ↦ used g.from (after, begins) (free g.from (omega arith, wide))
    ]

-- a gap ends where it begins, and the next one has a block of it
pub behind_overlaps : (gaps : List Gap) (i : ℕ) (p : Extent) (l e : Gap) → AreGaps 1 gaps → i + 1 < length gaps → l ≡ slice_index_or gaps i l → l.to ≡ p.place → 1 ≤ p.count → (slice_index_or gaps (i + 1) e).from < past p → InUse gaps p → ⊥
behind_overlaps gaps i p l e h low is touch some begins =
    let rise = gaps_rise 1 gaps i (i + 1) l e (omega arith) low h in
    let wide = gap_first 1 gaps (i + 1) e low h in
    let end = ap (λ (g : Gap). g.to) is in
    overlaps gaps (i + 1) p e h low some begins (omega (arith, wide.1))

pub next_overlaps : (gaps : List Gap) (i : ℕ) (p : Extent) (e : Gap) → AreGaps 1 gaps → i < length gaps → 1 ≤ p.count → (slice_index_or gaps i e).from < past p → ((d : Gap) → i < length gaps → p.place ≤ (slice_index_or gaps i d).to) → ((slice_index_or gaps i e).to ≡ p.place → ⊥) → InUse gaps p → ⊥
next_overlaps gaps i p e h low some begins least other used =
    let n = least e low in
    let ends : p.place < (slice_index_or gaps i e).to = omega (arith, n, other) in
    overlaps gaps i p e h low some begins ends used

-- a gap is read the same whatever the default is
pub from_read : (gaps : List Gap) (i n : ℕ) (e d : Gap) → i < length gaps → n < (slice_index_or gaps i e).from → n < (slice_index_or gaps i d).from
from_read gaps i n e d low h = subst (λ (g : Gap). n < g.from) (get_or_default gaps i e d low) h
