-- The rows that a condition picks are taken out of a table.
use Rattle.std.proofs.Common.{◌≡◌, inl, inr, ℕ, ℤ, pos, List, [], ◌∷◌, map, filter, Bool, true, false, not, ◌||◌, cond, Less, refl, sym, ap, subst, arith, ◌∙◌}
use Rattle.std.specs.List.{AllByRecursion, list_any}
use Rattle.std.specs.List.Sorted.{IsPermutation}
use Rattle.std.specs.Ordering.{is_eq, nat_cmp}
use Rattle.std.proofs.lemmas.List.Sorted.{IsPermutation-map, list_any-IsPermutation}
use Rattle.std.proofs.lemmas.Bool.{cases_Bool}
use Rattle.std.proofs.lemmas.Bool.Decides.{nat_tests}
use Rattle.sqlite.specs.declared.types.Value.TheVariants.{Int}
use Rattle.sqlite.specs.Order.{Row}
use Rattle.sqlite_trees.specs.Tree.{IsTable, rowid, without_rowid, has_rowid}
use Rattle.sqlite_catalog.proofs.LayoutLemmas.{ascending_filter}
use Rattle.sqlite_value.specs.Order.{value_cmp}
use Rattle.sqlite_rules.specs.Edit.{id_in, without_all}
use Rattle.sqlite_rules.specs.Calls.{ids_of}
use Rattle.guest_tables.proofs.any_schema.Keyed.{cmp_rows, has_row}

pub not_either : {X : Type 0} (p q : X → Bool) (xs : List X) → filter (λ x. not (q x)) (filter (λ x. not (p x)) xs) ≡ filter (λ x. not (p x || q x)) xs
not_either p q [] = refl
not_either p q (x ∷ xs) = elim (cases_Bool (p x)) [
  | inl here ↦ rw here (not_either p q xs)
  | inr not_here ↦ rw not_here (ap (λ rest. cond (not (q x)) (x ∷ rest) rest) (not_either p q xs))
]

pub every : {X : Type 0} (xs : List X) → xs ≡ filter (λ x. true) xs
every [] = refl
every (x ∷ xs) = ap (λ rest. x ∷ rest) (every xs)

abbrev is_among : List ℤ → Row → Bool
is_among ids r = list_any (λ id. has_rowid id r) ids

without_any : (rows : List Row) (ids : List ℤ) → without_all rows ids ≡ filter (λ r. not (is_among ids r)) rows
without_any rows [] = every rows
without_any rows (id ∷ ids) = without_any (without_rowid id rows) ids ∙ not_either (has_rowid id) (is_among ids) rows

pub IsTable-without_all : (rows : List Row) (ids : List ℤ) → IsTable rows → IsTable (without_all rows ids)
IsTable-without_all rows ids rise = subst IsTable (sym (without_any rows ids)) (ascending_filter _ _ rows rise)

same_self : (k : ℕ) → is_eq (nat_cmp k k) ≡ true
same_self k = grind (arith, nat_tests)

below_differs : (a b : ℕ) → nat_cmp a b ≡ Less → is_eq (nat_cmp a b) ≡ false
below_differs a b below = grind (arith, nat_tests)

above_differs : (a b : ℕ) → nat_cmp a b ≡ Less → is_eq (nat_cmp b a) ≡ false
above_differs a b below = grind (arith, nat_tests)

module _ {X : Type 0} (key : X → ℕ) (row : X → Row) (keyed : (x : X) → rowid (row x) ≡ Int (pos (key x))) (p : X → Bool) where
  abbrev picked : X → List X → Bool
  picked x ys = list_any (λ y. is_eq (nat_cmp (key x) (key y))) ys

  none_picked : (x : X) (xs : List X) → AllByRecursion (λ r. value_cmp (rowid (row x)) (rowid r) ≡ Less) (map row xs) → picked x (filter p xs) ≡ false
  none_picked x [] above = refl
  none_picked x (y ∷ ys) above = elim (cases_Bool (p y)) [
    | inl here ↦ rw (here, below_differs (key x) (key y) (sym (cmp_rows key row keyed x y) ∙ above.0)) (none_picked x ys above.1)
    | inr not_here ↦ rw not_here (none_picked x ys above.1)
  ]

  passed : (y : X) (ys all : List X) → AllByRecursion (λ r. value_cmp (rowid (row y)) (rowid r) ≡ Less) (map row all)
      → AllByRecursion (λ x. picked x (filter p ys) ≡ p x) all
      → AllByRecursion (λ x. picked x (filter p (y ∷ ys)) ≡ p x) all
  passed y ys [] above is = tt
  passed y ys (x ∷ all) above is = (one (p y), passed y ys all above.1 is.1)
    where
      one : (b : Bool) → picked x (cond b (y ∷ filter p ys) (filter p ys)) ≡ p x
      one true = rw (above_differs (key y) (key x) (sym (cmp_rows key row keyed y x) ∙ above.0)) is.0
      one false = is.0

  -- a row's key is among those of the rows that are picked where it is picked itself
  hits : (xs : List X) → IsTable (map row xs) → AllByRecursion (λ x. picked x (filter p xs) ≡ p x) xs
  hits [] rise = tt
  hits (y ∷ ys) rise = (first, passed y ys ys rise.0 (hits ys rise.1))
    where
      first : picked y (filter p (y ∷ ys)) ≡ p y
      first = elim (cases_Bool (p y)) [
        | inl here ↦ rw (here, same_self (key y)) refl
        | inr not_here ↦ rw not_here (none_picked y ys rise.0)
      ]

  among : (x : X) (ys : List X) → is_among (map (λ y. pos (key y)) ys) (row x) ≡ picked x ys
  among x [] = refl
  among x (y ∷ ys) = rw (has_row key row keyed (key y) x) (ap (λ b. is_eq (nat_cmp (key x) (key y)) || b) (among x ys))

  kept : (ids : List ℤ) (xs : List X) → AllByRecursion (λ x. is_among ids (row x) ≡ p x) xs → filter (λ r. not (is_among ids r)) (map row xs) ≡ map row
      (filter (λ x. not (p x)) xs)
  kept ids [] is = refl
  kept ids (x ∷ xs) is = elim (cases_Bool (p x)) [
    | inl here ↦ rw (is.0, here) (kept ids xs is.1)
    | inr not_here ↦ rw (is.0, not_here) (ap (λ rest. row x ∷ rest) (kept ids xs is.1))
  ]

  ids_are : (ys : List X) → ids_of (map (λ y. rowid (row y) ∷ []) ys) ≡ map (λ y. pos (key y)) ys
  ids_are [] = refl
  ids_are (y ∷ ys) = rw (keyed y) (ap (λ more. pos (key y) ∷ more) (ids_are ys))

  told : (ids : List ℤ) (xs all : List X) → IsPermutation (map (λ y. pos (key y)) (filter p xs)) ids → AllByRecursion (λ x. picked x (filter p xs) ≡ p x) all
      → AllByRecursion (λ x. is_among ids (row x) ≡ p x) all
  told ids xs [] same is = tt
  told ids xs (x ∷ all) same is = (
    sym (list_any-IsPermutation (λ id. has_rowid id (row x)) _ ids same) ∙ among x (filter p xs)
        ∙ is.0,
    told ids xs all same is.1,
  )

  pub removed : (xs : List X) (gone : List Row) → IsTable (map row xs) → IsPermutation (map (λ x. rowid (row x) ∷ []) (filter p xs)) gone
      → without_all (map row xs) (ids_of gone) ≡ map row (filter (λ x. not (p x)) xs)
  removed xs gone rise same =
      let ids = subst (λ l. IsPermutation l (ids_of gone)) (ids_are (filter p xs)) (IsPermutation-map (λ r. id_in (rowid r)) _ gone same) in
      without_any (map row xs) (ids_of gone) ∙ kept (ids_of gone) xs (told (ids_of gone) xs xs ids (hits xs rise))
