-- Elements of lists: those that a filter keeps, and those that a search finds.
use Rattle.std.proofs.Common.{◌≡◌, ◌≤◌, ◌<◌, ◌+◌, ◌⊎◌, inl, inr, ℕ, zero, suc, List, [], ◌∷◌, ◌++◌, filter, find, take, length, get_or, add-one, Bool, true, false, cond}
use Rattle.std.proofs.Common.{Option, Some, None, IfSome, option_map, refl, sym, ap, subst, arith, ◌∙◌}
use Rattle.std.specs.List.{AllByRecursion, Contains}
use Rattle.std.proofs.lemmas.Bool.{cases_Bool}

module _ {X : Type 0} where
  pub first_in : (x : X) (xs : List X) → Contains (x ∷ xs) x
  first_in x xs = (0, omega arith, refl)

  pub later_in : (x y : X) (xs : List X) → Contains xs y → Contains (x ∷ xs) y
  later_in x y xs (k, low, is) = (suc k, omega (arith, low), is)

  pub none_in : (x : X) → Contains [] x → ⊥
  none_in x (k, low, is) = omega (arith, low)

  pub first_or_later : (x y : X) (xs : List X) → Contains (x ∷ xs) y → (x ≡ y) ⊎ Contains xs y
  first_or_later x y xs (zero, low, is) = inl is
  first_or_later x y xs (suc k, low, is) = inr (k, omega (arith, low), is)

  pub all_in : (P : X → Type 0) (xs : List X) (y : X) → AllByRecursion P xs → Contains xs y → P y
  all_in P [] y all there = absurd (none_in y there)
  all_in P (x ∷ xs) y all there = elim (first_or_later x y xs there) [
    | inl same ↦ subst P same all.0
    | inr more ↦ all_in P xs y all.1 more
  ]

  pub each_in : (P : X → Type 0) (xs : List X) → ((y : X) → Contains xs y → P y) → AllByRecursion P xs
  each_in P [] each = tt
  each_in P (x ∷ xs) each = (each x (first_in x xs), each_in P xs (λ y there. each y (later_in x y xs there)))

  module _ (p : X → Bool) where
    pub into_kept : (xs : List X) (y : X) → Contains xs y → p y ≡ true → Contains (filter p xs) y
    into_kept [] y there is = absurd (none_in y there)
    into_kept (x ∷ xs) y there is = elim (cases_Bool (p x)) [
      | inl keeps ↦ rw keeps (elim (first_or_later x y xs there) [
        | inl same ↦ subst (λ z. Contains (x ∷ filter p xs) z) same (first_in x (filter p xs))
        | inr more ↦ later_in x y (filter p xs) (into_kept xs y more is)
      ])
      | inr goes ↦ rw goes (elim (first_or_later x y xs there) [
        | inl same ↦ absurd (let e = sym goes ∙ ap p same ∙ is in cc)
        | inr more ↦ into_kept xs y more is
      ])
    ]

    pub out_of_kept : (xs : List X) (y : X) → Contains (filter p xs) y → Contains xs y × (p y ≡ true)
    out_of_kept [] y there = absurd (none_in y there)
    out_of_kept (x ∷ xs) y there = elim (cases_Bool (p x)) [
      | inl keeps ↦ elim (first_or_later x y (filter p xs) (rw keeps at there)) [
        | inl same ↦ (subst (λ z. Contains (x ∷ xs) z) same (first_in x xs), ap p (sym same) ∙ keeps)
        | inr more ↦ let both = out_of_kept xs y more in (later_in x y xs both.0, both.1)
      ]
      | inr goes ↦ let both = out_of_kept xs y (rw goes at there) in (later_in x y xs both.0, both.1)
    ]

    pub none_found_of : (xs : List X) → ((y : X) → Contains xs y → p y ≡ true → ⊥) → find p xs ≡ None
    none_found_of [] none = refl
    none_found_of (x ∷ xs) none = elim (cases_Bool (p x)) [
      | inl is ↦ absurd (none x (first_in x xs) is)
      | inr off ↦ rw off (none_found_of xs (λ y there. none y (later_in x y xs there)))
    ]

    pub none_is_in : (xs : List X) (y : X) → find p xs ≡ None → Contains xs y → p y ≡ true → ⊥
    none_is_in [] y none there is = none_in y there
    none_is_in (x ∷ xs) y none there is = elim (cases_Bool (p x)) [
      | inl here ↦ absurd (let e = rw here at none in cc)
      | inr off ↦ elim (first_or_later x y xs there) [
        | inl same ↦ absurd (let e = sym off ∙ ap p same ∙ is in cc)
        | inr more ↦ none_is_in xs y (rw off at none) more is
      ]
    ]

    pub found_of : (xs : List X) → IfSome (find p xs) (λ y. Contains xs y × (p y ≡ true))
    found_of [] = tt
    found_of (x ∷ xs) = elim (cases_Bool (p x)) [
      | inl here ↦ rw here (first_in x xs, here)
      | inr off ↦ rw off (more (find p xs) (found_of xs))
    ]
      where
        more : (o : Option X) → IfSome o (λ y. Contains xs y × (p y ≡ true)) → IfSome o (λ y. Contains (x ∷ xs) y × (p y ≡ true))
        more None found = tt
        more (Some y) found = (later_in x y xs found.0, found.1)

-- a list that is no longer than the limit
pub whole_taken : {X : Type 0} (n : ℕ) (xs : List X) → length xs ≤ n → take n xs ≡ xs
whole_taken zero [] few = refl
whole_taken (suc n) [] few = refl
whole_taken zero (x ∷ xs) few = absurd (omega (arith, few))
whole_taken (suc n) (x ∷ xs) few = ap (λ l. x ∷ l) (whole_taken n xs (omega (arith, few)))

-- one more at the end
abbrev pub or_else : {Y : Type 0} → Option Y → Option Y → Option Y
or_else None o = o
or_else (Some y) o = Some y

pub found_end : {X Y : Type 0} (p : X → Bool) (f : X → Y) (xs : List X) (x : X)
    → option_map f (find p (xs ++ x ∷ [])) ≡ or_else (option_map f (find p xs)) (cond (p x) (Some (f x)) None)
found_end p f [] x = elim (cases_Bool (p x)) [
  | inl here ↦ rw here refl
  | inr off ↦ rw off refl
]
found_end p f (y ∷ xs) x = elim (cases_Bool (p y)) [
  | inl here ↦ rw here refl
  | inr off ↦ rw off (found_end p f xs x)
]

-- ---- found on the way

pub found_here : {X : Type 0} (p : X → Bool) (xs : List X) (i : ℕ) (d : X) → i < length xs → find p (take i xs) ≡ None → p (get_or xs i d) ≡ true
    → Some (get_or xs i d) ≡ find p xs
found_here p [] i d low none is = absurd (omega (arith, low))
found_here p (x ∷ xs) zero d low none is = rw is refl
found_here p (x ∷ xs) (suc i) d low none is = elim (cases_Bool (p x)) [
  | inl here ↦ absurd (let e = rw here at none in cc)
  | inr off ↦ rw off (found_here p xs i d (omega (arith, low)) (rw off at none) is)
]

pub none_more : {X : Type 0} (p : X → Bool) (xs : List X) (i : ℕ) (d : X) → i < length xs → find p (take i xs) ≡ None → p (get_or xs i d) ≡ false
    → find p (take (i + 1) xs) ≡ None
none_more {X = X} p xs i d low none is = rw add-one (by xs i low none is)
  where
    by : (ys : List X) (k : ℕ) → k < length ys → find p (take k ys) ≡ None → p (get_or ys k d) ≡ false → find p (take (suc k) ys) ≡ None
    by [] k low none is = absurd (omega (arith, low))
    by (y ∷ ys) zero low none is = rw is refl
    by (y ∷ ys) (suc k) low none is = elim (cases_Bool (p y)) [
      | inl here ↦ absurd (let e = rw here at none in cc)
      | inr off ↦ rw off (by ys k (omega (arith, low)) (rw off at none) is)
    ]

pub none_at_all : {X : Type 0} (p : X → Bool) (xs : List X) (i : ℕ) → length xs ≤ i → find p (take i xs) ≡ None → None ≡ find p xs
none_at_all p xs i all none = sym none ∙ ap (find p) (whole_taken i xs all)

pub pushed_long : {X : Type 0} (xs ys : List X) (x : X) → ys ≡ xs ++ x ∷ [] → length ys ≡ length xs + 1
pushed_long {X = X} xs ys x is = ap length is ∙ by xs
  where
    by : (zs : List X) → length (zs ++ x ∷ []) ≡ length zs + 1
    by [] = refl
    by (z ∷ zs) = ap suc (by zs) ∙ (let e : suc (length zs + 1) ≡ suc (length zs) + 1 = omega arith in e)
