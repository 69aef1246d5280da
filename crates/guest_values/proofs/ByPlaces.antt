-- Extents that share no block, once they are sorted by their places.
use Rattle.std.proofs.Common.{◌≡◌, ◌≢◌, ◌≤◌, ◌<◌, inl, inr, ℕ, suc, List, [], ◌∷◌, length, get_or, refl, sym, ap, subst, arith, ◌∙◌}
use Rattle.std.specs.List.{All, AllPairs, swap}
use Rattle.std.specs.List.Sorted.{IsPermutation, IsNonDecreasingBy}
use Rattle.std.proofs.lemmas.List.Sorted.{IsPermutation-keeps, All-permutation}
use Rattle.std.proofs.lemmas.List.Edits.{Swapped, swapped_from_swap, length-swap}
use Rattle.std.proofs.lemmas.Bool.{cases_eq, cases_lt}
use Rattle.std.proofs.lemmas.List.Elements.{All-tail}
use Rattle.fuse_data.specs.declared.extent.Extent.{Extent}
use Rattle.fuse_data.specs.Extents.{past, IsPlaced, AreDisjoint, AreByPlace}

-- ---- each two of a list, in whatever order

-- of two different places
abbrev EachTwo : {X : Type 0} → (X → X → Type 0) → List X → Type 0
EachTwo {X} R xs = (i j : ℕ) (d : X) → i ≢ j → i < length xs → j < length xs → R (get_or xs i d) (get_or xs j d)

module _ {X : Type 0} (R : X → X → Type 0) (turn : (x y : X) → R x y → R y x) where
  each_two : (xs : List X) → AllPairs R xs → EachTwo R xs
  each_two xs pairs i j d other low high = elim (cases_lt i j) [
    | inl before ↦ pairs i j d before high
    | inr after ↦ turn (get_or xs j d) (get_or xs i d) (pairs j i d (next i j other after) low)
  ]
    where
      next : (i j : ℕ) → i ≢ j → j ≤ i → j < i
      next i j other after = elim (cases_lt j i) [
        | inl low ↦ low
        | inr high ↦ absurd (other (omega (arith, after, high)))
      ]

  swapped : (xs : List X) (a b : ℕ) → a < length xs → b < length xs → EachTwo R xs → EachTwo R (swap xs a b)
  swapped xs a b low_a low_b two i j d other low high = elim (cases_eq i a) [
    | inl i_a ↦ elim (cases_eq j b) [
      | inl j_b ↦ go b a (at_a i i_a) (at_b j j_b) low_b low_a (λ is. other (i_a ∙ sym is ∙ sym j_b))
      | inr j_b ↦ go b j (at_a i i_a) (moved.2 j (λ is. other (i_a ∙ sym is)) j_b) low_b (in_range j high) (λ is. j_b (sym is))
    ]
    | inr i_a ↦ elim (cases_eq i b) [
      | inl i_b ↦ elim (cases_eq j a) [
        | inl j_a ↦ go a b (at_b i i_b) (at_a j j_a) low_a low_b (λ is. other (i_b ∙ sym is ∙ sym j_a))
        | inr j_a ↦ go a j (at_b i i_b) (moved.2 j j_a (λ is. other (i_b ∙ sym is))) low_a (in_range j high) (λ is. j_a (sym is))
      ]
      | inr i_b ↦ elim (cases_eq j a) [
        | inl j_a ↦ go i b (moved.2 i i_a i_b) (at_a j j_a) (in_range i low) low_b i_b
        | inr j_a ↦ elim (cases_eq j b) [
          | inl j_b ↦ go i a (moved.2 i i_a i_b) (at_b j j_b) (in_range i low) low_a i_a
          | inr j_b ↦ go i j (moved.2 i i_a i_b) (moved.2 j j_a j_b) (in_range i low) (in_range j high) other
        ]
      ]
    ]
  ]
    where
      moved : Swapped (λ k. get_or xs k d) (λ k. get_or (swap xs a b) k d) a b
      moved = swapped_from_swap xs (swap xs a b) a b d low_a low_b refl

      at_a : (k : ℕ) → k ≡ a → get_or (swap xs a b) k d ≡ get_or xs b d
      at_a k is = ap (λ k. get_or (swap xs a b) k d) is ∙ moved.0

      at_b : (k : ℕ) → k ≡ b → get_or (swap xs a b) k d ≡ get_or xs a d
      at_b k is = ap (λ k. get_or (swap xs a b) k d) is ∙ moved.1

      in_range : (k : ℕ) → k < length (swap xs a b) → k < length xs
      in_range k low = subst (λ n. k < n) (length-swap xs a b) low

      go : (m n : ℕ) → get_or (swap xs a b) i d ≡ get_or xs m d → get_or (swap xs a b) j d ≡ get_or xs n d → m < length xs → n < length xs → m ≢ n
          → R (get_or (swap xs a b) i d) (get_or (swap xs a b) j d)
      go m n at_i at_j low_m low_n apart =
          subst (λ x. R x (get_or (swap xs a b) j d)) (sym at_i) (subst (λ y. R (get_or xs m d) y) (sym at_j) (two m n d apart low_m low_n))

  pub pairs_permuted : (xs ys : List X) → IsPermutation xs ys → AllPairs R xs → AllPairs R ys
  pairs_permuted xs ys same pairs i j d low high =
      IsPermutation-keeps xs (EachTwo R) (each_two xs pairs) (λ l a b low_a low_b two. swapped l a b low_a low_b two) ys same i j d (λ is. absurd (omega (arith, is, low)))
      (omega (arith, low, high)) high

-- ---- in order of place

apart_turns : (p q : Extent) → AreDisjoint p q → AreDisjoint q p
apart_turns p q (inl first) = inr first
apart_turns p q (inr last) = inl last

in_order : (low : ℕ) (l : List Extent) → ((d : Extent) → 0 < length l → low ≤ (get_or l 0 d).place) → All IsPlaced l → AllPairs AreDisjoint l
    → IsNonDecreasingBy (λ e. e.place) l → AreByPlace low l
in_order low [] first placed apart rise = tt
in_order low (p ∷ later) first placed apart rise = (
  first p (omega arith),
  placed 0 p (omega arith),
  in_order (past p) later next (All-tail IsPlaced p later placed) (λ i j d before high. apart (suc i) (suc j) d (omega (arith, before)) (omega (arith, high)))
      (λ i j d before high. rise (suc i) (suc j) d (omega (arith, before)) (omega (arith, high))),
)
  where
    after : (q : Extent) → IsPlaced q → AreDisjoint p q → p.place ≤ q.place → past p ≤ q.place
    after q is (inl before) up = before
    after q is (inr behind) up = let some = is.some in absurd (omega (arith, behind, up, some))

    next : (d : Extent) → 0 < length later → past p ≤ (get_or later 0 d).place
    next d some = after (get_or later 0 d) (placed 1 d (omega (arith, some))) (apart 0 1 d (omega arith) (omega (arith, some))) (rise 0 1 d (omega arith) (omega (arith, some)))

pub sorted_by_place : (xs ys : List Extent) → IsPermutation xs ys → IsNonDecreasingBy (λ e. e.place) ys → All IsPlaced xs → AllPairs AreDisjoint xs → AreByPlace 1 ys
sorted_by_place xs ys same rise placed apart =
    in_order 1 ys (λ d some. (placed_too 0 d some).place) placed_too (pairs_permuted AreDisjoint apart_turns xs ys same apart) rise
  where
    placed_too : All IsPlaced ys
    placed_too = All-permutation IsPlaced xs ys same placed
