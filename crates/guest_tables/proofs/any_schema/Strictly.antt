-- Lists in which no two elements have the same key.
use Rattle.std.proofs.Common.{◌≡◌, ◌≤◌, inl, inr, List, [], ◌∷◌, filter, length, Bool, true, false, cond, refl, sym, ap, subst, arith, ◌∙◌}
use Rattle.std.specs.List.{AllByRecursion}
use Rattle.std.specs.List.Sorted.{IsPermutation}
use Rattle.std.proofs.lemmas.Bool.{cases_Bool}
use Rattle.std.proofs.lemmas.List.{nil_from_length}
use Rattle.std.proofs.lemmas.List.Sorted.{length_permutation}
use Rattle.sqlite_trees.specs.Tree.{IsAscending}
use Rattle.sqlite_trees.proofs.ListLemmas.{all_weaker, IsPermutation-filter}

nil_if_one : {X : Type 0} (x : X) (xs : List X) → length (x ∷ xs) ≤ 1 → xs ≡ []
nil_if_one x xs few = nil_from_length xs (omega (arith, few))

-- what passes a test
pub passing : {X : Type 0} (p : X → Bool) (xs : List X) → AllByRecursion (λ x. p x ≡ true) (filter p xs)
passing p [] = tt
passing p (x ∷ xs) = elim (cases_Bool (p x)) [
  | inl is ↦ subst (λ b. AllByRecursion (λ y. p y ≡ true) (cond b (x ∷ filter p xs) (filter p xs))) (sym is) (is, passing p xs)
  | inr off ↦ subst (λ b. AllByRecursion (λ y. p y ≡ true) (cond b (x ∷ filter p xs) (filter p xs))) (sym off) (passing p xs)
]

-- ---- keys

-- e x y: y has the key of x
module _ {X : Type 0} (e : X → X → Bool) where
  none_with : (x : X) (xs : List X) → AllByRecursion (λ y. e x y ≡ false) xs → filter (e x) xs ≡ []
  none_with x [] off = refl
  none_with x (y ∷ xs) off = ap (λ b. cond b (y ∷ filter (e x) xs) (filter (e x) xs)) off.0 ∙ none_with x xs off.1

  with_none : (x : X) (xs : List X) → filter (e x) xs ≡ [] → AllByRecursion (λ y. e x y ≡ false) xs
  with_none x [] none = tt
  with_none x (y ∷ xs) none = elim (cases_Bool (e x y)) [
    | inl is ↦ absurd (let some = sym (ap (λ b. cond b (y ∷ filter (e x) xs) (filter (e x) xs)) is) ∙ none in cc)
    | inr off ↦ (off, with_none x xs (sym (ap (λ b. cond b (y ∷ filter (e x) xs) (filter (e x) xs)) off) ∙ none))
  ]

  -- at most one has the key of x
  pub one_each : ((x a b : X) → e x a ≡ true → e a b ≡ false → e x b ≡ false) → (xs : List X) → IsAscending (λ a b. e a b ≡ false) xs
      → (x : X) → length (filter (e x) xs) ≤ 1
  one_each joins [] up x = omega arith
  one_each joins (a ∷ xs) up x = elim (cases_Bool (e x a)) [
    | inl is ↦
        let none = none_with x xs (all_weaker (λ b. e a b ≡ false) (λ b. e x b ≡ false) (λ b. joins x a b is) xs up.0) in
        subst (λ b. length (cond b (a ∷ filter (e x) xs) (filter (e x) xs)) ≤ 1) (sym is)
        (subst (λ (l : List X). length (a ∷ l) ≤ 1) (sym none) (omega arith))
    | inr off ↦ subst (λ b. length (cond b (a ∷ filter (e x) xs) (filter (e x) xs)) ≤ 1) (sym off) (one_each joins xs up.1 x)
  ]

  pub one_still : (xs ys : List X) → IsPermutation xs ys → ((x : X) → length (filter (e x) xs) ≤ 1) → (x : X) → length (filter (e x) ys) ≤ 1
  one_still xs ys same few x = omega (arith, few x, length_permutation _ _ (IsPermutation-filter (e x) xs ys same))

  fewer : (x a : X) (xs : List X) → length (filter (e x) (a ∷ xs)) ≤ 1 → length (filter (e x) xs) ≤ 1
  fewer x a xs few = elim (cases_Bool (e x a)) [
    | inl is ↦
        let more = subst (λ b. length (cond b (a ∷ filter (e x) xs) (filter (e x) xs)) ≤ 1) is few in
        omega (arith, more)
    | inr off ↦ subst (λ b. length (cond b (a ∷ filter (e x) xs) (filter (e x) xs)) ≤ 1) off few
  ]

  -- in an order of keys each is then before the next ones
  module _ (itself : (x : X) → e x x ≡ true) (P : X → Type 0) (R S : X → X → Type 0) (says : (a b : X) → P a → P b → R a b → e a b ≡ false → S a b) where
    each : (a : X) (xs : List X) → P a → AllByRecursion P xs → AllByRecursion (R a) xs → AllByRecursion (λ b. e a b ≡ false) xs → AllByRecursion (S a) xs
    each a [] here ps up off = tt
    each a (x ∷ xs) here ps up off = (says a x here ps.0 up.0 off.0, each a xs here ps.1 up.1 off.1)

    pub strictly : (xs : List X) → AllByRecursion P xs → IsAscending R xs → ((x : X) → length (filter (e x) xs) ≤ 1) → IsAscending S xs
    strictly [] ps up few = tt
    strictly (a ∷ xs) ps up few =
        let one = subst (λ b. length (cond b (a ∷ filter (e a) xs) (filter (e a) xs)) ≤ 1) (itself a) (few a) in
        (each a xs ps.0 ps.1 up.0 (with_none a xs (nil_if_one a (filter (e a) xs) one)), strictly xs ps.1 up.1 (λ x. fewer x a xs (few x)))
