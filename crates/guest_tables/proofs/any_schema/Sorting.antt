-- A list in rising order has no other order that rises.
use Rattle.std.proofs.Common.{◌≡◌, ◌⊎◌, inl, inr, ℕ, ◌<◌, ◌≤◌, ◌==◌, List, [], ◌∷◌, length, cond, refl, sym, ap, subst, arith, ◌∙◌}
use Rattle.std.specs.List.{AllByRecursion, sum_by}
use Rattle.std.specs.List.Sorted.{IsPermutation}
use Rattle.std.proofs.lemmas.List.Sorted.{sum_by-IsPermutation, length_permutation, IsPermutation-sym}
use Rattle.std.proofs.lemmas.List.Sums.{sum_by-cons}
use Rattle.std.proofs.lemmas.Bool.Decides.{nat_tests}
use Rattle.sqlite_trees.specs.Tree.{IsAscending}
use Rattle.sqlite_trees.proofs.ListLemmas.{all-permutation}
use Rattle.sqlite_rules.specs.Lists.{Has}
use Rattle.sqlite_rules.proofs.ListLemmas.{all_has}

module _ {X : Type 0} (key : X → ℕ) where
  abbrev pub Rises : List X → Type 0
  Rises = IsAscending (λ a b. key a < key b)

  abbrev pub Follows : List X → Type 0
  Follows = IsAscending (λ a b. key a ≤ key b)

  abbrev is_one : ℕ → ℕ → ℕ
  is_one k m = cond (m == k) 1 0

  abbrev one : ℕ → X → ℕ
  one k x = is_one k (key x)

  has_all : (xs ys : List X) → ((x : X) → Has xs x → Has ys x) → AllByRecursion (Has ys) xs
  has_all [] ys all = tt
  has_all (x ∷ xs) ys all = (all x (inl refl), has_all xs ys (λ z h. all z (inr h)))

  above : (x : X) (xs : List X) (z : X) → AllByRecursion (λ b. key x < key b) xs → Has xs z → key x < key z
  above x [] z all h = absurd h
  above x (y ∷ ys) z all (inl is) = subst (λ w. key x < key w) (sym is) all.0
  above x (y ∷ ys) z all (inr h) = above x ys z all.1 h

  from : (x : X) (xs : List X) (z : X) → AllByRecursion (λ b. key x ≤ key b) xs → Has xs z → key x ≤ key z
  from x [] z all h = absurd h
  from x (y ∷ ys) z all (inl is) = subst (λ w. key x ≤ key w) (sym is) all.0
  from x (y ∷ ys) z all (inr h) = from x ys z all.1 h

  one_other : (k m : ℕ) → k < m → is_one k m ≡ 0
  one_other k m low = grind (arith, nat_tests)

  one_same : (k : ℕ) → is_one k k ≡ 1
  one_same k = grind (arith, nat_tests)

  none : (k : ℕ) (x : X) (xs : List X) → key x ≡ k → AllByRecursion (λ b. key x < key b) xs → sum_by (one k) xs ≡ 0
  none k x [] is all = refl
  none k x (y ∷ ys) is all =
      let low : k < key y = subst (λ m. m < key y) is all.0 in
      omega (arith, sum_by-cons (one k) y ys, one_other k (key y) low, none k x ys is all.1)

  some : (x : X) (xs : List X) → Has xs x → 1 ≤ sum_by (one (key x)) xs
  some x [] h = absurd h
  some x (y ∷ ys) (inl is) = let first : one (key x) y ≡ 1 = subst (λ w. one (key x) w ≡ 1) is (one_same (key x)) in omega (
    arith,
    sum_by-cons (one (key x)) y
        ys,
    first,
  )
  some x (y ∷ ys) (inr h) = omega (arith, sum_by-cons (one (key x)) y ys, some x ys h)

  heads : (x y : X) (xs ys : List X) → Rises (x ∷ xs) → Follows (y ∷ ys) → (y ≡ x) ⊎ Has xs y → (x ≡ y) ⊎ Has ys x → y ≡ x
  heads x y xs ys rises follows (inl is) h = is
  heads x y xs ys rises follows (inr h) (inl is) = sym is
  heads x y xs ys rises follows (inr h) (inr k) = absurd (omega (arith, above x xs y rises.0 h, from y ys x follows.0 k))

  abbrev Alike : List X → List X → Type 0
  Alike xs ys = (length ys ≡ length xs) × ((z : X) → Has ys z → Has xs z) × ((z : X) → Has xs z → Has ys z) × ((k : ℕ) → sum_by (one k) ys ≡ sum_by (one k) xs)

  cut_counts : (x : X) (xs ys : List X) → ((k : ℕ) → sum_by (one k) (x ∷ ys) ≡ sum_by (one k) (x ∷ xs)) → (k : ℕ) → sum_by (one k) ys ≡ sum_by (one k) xs
  cut_counts x xs ys counts k = omega (arith, counts k, sum_by-cons (one k) x ys, sum_by-cons (one k) x xs)

  tails : (x : X) (xs ys : List X) → Rises (x ∷ xs) → Alike (x ∷ xs) (x ∷ ys) → Alike xs ys
  tails x xs ys rises (len, to, back, counts) = (omega (arith, len), to_tail, back_tail, cut_counts x xs ys counts)
    where
      to_tail : (z : X) → Has ys z → Has xs z
      to_tail z h = elim (to z (inr h)) [
        | inl is ↦ absurd (omega (arith, some x ys (subst (Has ys) is h), cut_counts x xs ys counts (key x), none (key x) x xs refl rises.0))
        | inr k ↦ k
      ]

      back_tail : (z : X) → Has xs z → Has ys z
      back_tail z h = elim (back z (inr h)) [
        | inl is ↦ absurd (omega (arith, above x xs x rises.0 (subst (Has xs) is h)))
        | inr k ↦ k
      ]

  pub same_lists : (xs ys : List X) → Rises xs → Follows ys → Alike xs ys → ys ≡ xs
  same_lists [] [] rises follows alike = refl
  same_lists [] (y ∷ ys) rises follows alike = absurd (omega (arith, alike.0))
  same_lists (x ∷ xs) [] rises follows alike = absurd (omega (arith, alike.0))
  same_lists (x ∷ xs) (y ∷ ys) rises follows alike =
      let first : y ≡ x = heads x y xs ys rises follows (alike.1 y (inl refl)) (alike.2 x (inl refl)) in
      let rest = same_lists xs ys rises.1 follows.1 (tails x xs ys rises (subst (λ w. Alike (x ∷ xs) (w ∷ ys)) first alike)) in
      ap (λ w. w ∷ ys) first ∙ ap (λ l. x ∷ l) rest

  -- what a sort of a rising list gives
  pub sorted_same : (xs ys : List X) → Rises xs → Follows ys → IsPermutation xs ys → ys ≡ xs
  sorted_same xs ys rises follows same = same_lists xs ys rises follows (
    length_permutation xs ys same,
    (λ z h. all_has (Has xs) ys z (all-permutation (Has xs) xs ys same (has_all xs xs (λ w k. k))) h),
    (λ z h. all_has (Has ys) xs z (all-permutation (Has ys) ys xs (IsPermutation-sym xs ys same) (has_all ys ys (λ w k. k))) h),
    (λ k. sum_by-IsPermutation (one k) xs ys same),
  )
