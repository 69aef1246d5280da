-- The blocks that are free up to the end.
use Rattle.std.proofs.Common.{◌≡◌, ℕ, ◌+◌, ◌-◌, ◌<◌, ◌≤◌, List, [], ◌∷◌, ◌++◌, length, take, drop, slice_index_or, sym, subst, inl, inr, arith, length-drop}
use Rattle.std.proofs.lemmas.Bool.{cases_lt}
use Rattle.std.proofs.lemmas.List.{get_or_default}
use Rattle.fuse_data.specs.declared.extent.TheConstants.{END}
use Rattle.fuse_data.specs.declared.gaps.Gap.{Gap}
use Rattle.fuse_data.specs.Space.{IsFreeBlock, AreGaps, IsTail}
use Rattle.fuse_data.proofs.Blocks.{free_right, free_cases, gap_low, gaps_at}
use Rattle.fuse_data.proofs.Order.{ends_before, free_ends, gap_cut}

-- what is free lies in the last gap or before it
free_last : (xs ys : List Gap) (g : Gap) (b : ℕ) → length ys ≡ 0 → AreGaps 1 (xs ++ g ∷ ys) → IsFreeBlock (xs ++ g ∷ ys) b → g.from ≤ b + 1 → (g.from ≤ b) × (b < g.to)
free_last xs [] g b none h free near = elim (free_cases xs (g ∷ []) b free) [
  | inl left ↦ absurd (let n = free_ends g.from b xs (ends_before 1 xs [] g h) left in omega arith)
  | inr (inl here) ↦ here
  | inr (inr nothing) ↦ absurd nothing
]
free_last xs (y ∷ ys) g b none h free near = absurd (omega arith)

pub last_tail : (gaps : List Gap) (n : ℕ) (d : Gap) → AreGaps 1 gaps → n + 1 ≡ length gaps → END ≤ (slice_index_or gaps n d).to → IsTail gaps (slice_index_or gaps n d).from
last_tail gaps n d h size end =
    let g : Gap = slice_index_or gaps n d in
    let is : g ≡ slice_index_or gaps n g = get_or_default gaps n d g (omega arith) in
    let xs = take n gaps in
    let ys = drop (n + 1) gaps in
    let cut : gaps ≡ xs ++ g ∷ ys = gap_cut gaps n (n + 1) g (omega arith) (omega arith) is in
    let whole : AreGaps 1 (xs ++ g ∷ ys) = subst (AreGaps 1) cut h in
    let at = gaps_at 1 xs ys g whole in
    let low = gap_low 1 xs ys g whole in
    let none : length ys ≡ 0 = omega (arith, length-drop (n + 1) gaps) in
    record {
      some = low;
      low = omega (arith, at.1, at.2);
      free = λ b from to. subst (λ (l : List Gap). IsFreeBlock l b) (sym cut) (free_right xs (g ∷ ys) b (inl (from, omega arith)));
      first = λ b b_low all. elim (cases_lt b g.from) [
        | inl less ↦ absurd (
            let free = subst (λ (l : List Gap). IsFreeBlock l (g.from - 1)) cut (all (g.from - 1) (omega arith) (omega (arith, at.1, at.2))) in
            let here = free_last xs ys g (g.from - 1) none whole free (omega arith) in omega (arith, here.0))
        | inr least ↦ least
      ];
    }

pub no_tail : (gaps : List Gap) (n : ℕ) (d : Gap) → AreGaps 1 gaps → n + 1 ≡ length gaps → (slice_index_or gaps n d).to < END → IsTail gaps END
no_tail gaps n d h size end =
    let g : Gap = slice_index_or gaps n d in
    let is : g ≡ slice_index_or gaps n g = get_or_default gaps n d g (omega arith) in
    let xs = take n gaps in
    let ys = drop (n + 1) gaps in
    let cut : gaps ≡ xs ++ g ∷ ys = gap_cut gaps n (n + 1) g (omega arith) (omega arith) is in
    let whole : AreGaps 1 (xs ++ g ∷ ys) = subst (AreGaps 1) cut h in
    let at = gaps_at 1 xs ys g whole in
    let none : length ys ≡ 0 = omega (arith, length-drop (n + 1) gaps) in
    record {
      some = omega arith;
      low = omega arith;
      free = λ b from to. absurd (omega arith);
      first = λ b b_low all. absurd (
          let free = subst (λ (l : List Gap). IsFreeBlock l (END - 1)) cut (all (END - 1) (omega arith) (omega arith)) in
          let here = free_last xs ys g (END - 1) none whole free (omega (arith, at.1)) in omega (arith, here.1));
    }

pub empty_tail : (gaps : List Gap) → length gaps ≡ 0 → IsTail gaps END
empty_tail [] none =
    record {
      some = omega arith;
      low = omega arith;
      free = λ b from to. absurd (omega arith);
      first = λ b b_low all. absurd (all b (omega arith) b_low);
    }
empty_tail (g ∷ gaps) none = absurd (omega arith)

pub one_tail : (gaps : List Gap) (m n : ℕ) → IsTail gaps m → IsTail gaps n → m ≡ n
one_tail gaps m n h k = elim (cases_lt n m) [
  | inl less ↦ absurd (let first = h.first n (let low = h.low in omega arith) k.free in omega arith)
  | inr more ↦ elim (cases_lt m n) [
    | inl less ↦ absurd (let first = k.first m (let low = k.low in omega arith) h.free in omega arith)
    | inr same ↦ omega arith
  ]
]
