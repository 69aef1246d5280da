-- Tables whose rowid is a number from 0 on, as lists of typed rows.
use Rattle.std.proofs.Common.{◌≡◌, inl, inr, ℕ, pos, List, [], ◌∷◌, map, filter, fold, Bool, true, false, not, cond, Some, None, Option, Less, Equal, Greater}
use Rattle.std.proofs.Common.{refl, sym, ap, subst, arith, ◌∙◌, int_cmp}
use Rattle.std.specs.List.{AllByRecursion, find}
use Rattle.std.specs.Option.{option_to_list, is_some}
use Rattle.std.specs.Ordering.{is_eq, nat_cmp, match_ordering}
use Rattle.std.specs.declared.cmp.Ordering.{Ordering}
use Rattle.std.proofs.lemmas.Bool.{cases_Bool}
use Rattle.std.proofs.lemmas.Bool.Decides.{nat_tests}
use Rattle.sqlite.specs.declared.types.Value.TheVariants.{Int}
use Rattle.sqlite.specs.Order.{Row}
use Rattle.sqlite_trees.specs.Tree.{IsTable, rowid, put_row, without_rowid, has_rowid}
use Rattle.sqlite_trees.proofs.TreeLemmas.{IsTable-put_row}
use Rattle.sqlite_rules.specs.Edit.{with_rowid, numbered, put_all, is_taken}
use Rattle.sqlite.specs.Rowids.TheVariants.{Chosen}
use Rattle.sqlite_value.specs.Order.{value_cmp}
use Rattle.fuse_store_tables.specs.Content.{put_by}
use Rattle.sqlite_value.proofs.OrderLemmas.{value_cmp-Int}

int_cmp_nat : (m n : ℕ) → int_cmp (pos m) (pos n) ≡ nat_cmp m n
int_cmp_nat m n = grind (arith, nat_tests)

pub row_cmp_nat : (m n : ℕ) → value_cmp (Int (pos m)) (Int (pos n)) ≡ nat_cmp m n
row_cmp_nat m n = value_cmp-Int (pos m) (pos n) ∙ int_cmp_nat m n

pub none_there : {X : Type 0} (o : Option X) → is_some o ≡ false → o ≡ None
none_there None is = refl
none_there (Some x) is = absurd cc

module _ {X : Type 0} (key : X → ℕ) (row : X → Row) (keyed : (x : X) → rowid (row x) ≡ Int (pos (key x))) where
  abbrev pub has : ℕ → X → Bool
  has k x = is_eq (nat_cmp (key x) k)

  abbrev pub at_key : ℕ → List X → Option X
  at_key k = find (has k)

  abbrev pub put : X → List X → List X
  put = put_by key

  pub cmp_rows : (x y : X) → value_cmp (rowid (row x)) (rowid (row y)) ≡ nat_cmp (key x) (key y)
  cmp_rows x y = rw (keyed x, keyed y) (row_cmp_nat (key x) (key y))

  pub has_row : (k : ℕ) (x : X) → has_rowid (pos k) (row x) ≡ has k x
  has_row k x = rw (keyed x) (ap is_eq (row_cmp_nat (key x) k))

  by_order : (o : Ordering) (a b d : List Row) (x y z : List X) → a ≡ map row x → b ≡ map row y → d ≡ map row z
      → match_ordering o a b d ≡ map row (match_ordering o x y z)
  by_order Less a b d x y z p q r = p
  by_order Equal a b d x y z p q r = q
  by_order Greater a b d x y z p q r = r

  pub put_rows : (new : X) (xs : List X) → put_row (row new) (map row xs) ≡ map row (put new xs)
  put_rows new [] = refl
  put_rows new (x ∷ xs) =
      ap (λ o. match_ordering o (row x ∷ put_row (row new) (map row xs)) (row new ∷ map row xs) (row new ∷ row x ∷ map row xs)) (cmp_rows x new)
      ∙ by_order (nat_cmp (key x) (key new)) _ _ _ (x ∷ put new xs) (new ∷ xs) (new ∷ x ∷ xs) (ap (λ rs. row x ∷ rs) (put_rows new xs)) refl refl

  later_differs : (a b k : ℕ) → nat_cmp a b ≡ Less → is_eq (nat_cmp a k) ≡ true → is_eq (nat_cmp b k) ≡ false
  later_differs a b k below is = grind (arith, nat_tests)

  abbrev Above : X → List X → Type 0
  Above x xs = AllByRecursion (λ r. value_cmp (rowid (row x)) (rowid r) ≡ Less) (map row xs)

  none_after : (k : ℕ) (x : X) (xs : List X) → has k x ≡ true → Above x xs → filter (has k) xs ≡ []
  none_after k x [] is above = refl
  none_after k x (y ∷ xs) is above =
      ap (λ t. cond t (y ∷ filter (has k) xs) (filter (has k) xs)) (later_differs (key x) (key y) k (sym (cmp_rows x y) ∙ above.0) is)
      ∙ none_after k x xs is above.1

  pub found_rows : (k : ℕ) (xs : List X) → IsTable (map row xs) → filter (has k) xs ≡ option_to_list (at_key k xs)
  found_rows k [] rise = refl
  found_rows k (x ∷ xs) rise = elim (cases_Bool (has k x)) [
    | inl here ↦ rw here (ap (λ rest. x ∷ rest) (none_after k x xs here rise.0))
    | inr not_here ↦ rw not_here (found_rows k xs rise.1)
  ]

  -- a row whose rowid is not taken has a new key
  pub none_taken : (x : X) (xs : List X) → is_taken (map row xs) (row x) ≡ false → at_key (key x) xs ≡ None
  none_taken x [] free = refl
  none_taken x (y ∷ ys) free = elim (cases_Bool (has (key x) y)) [
    | inl here ↦ absurd (let e = rw (cmp_rows y x, here) at free in cc)
    | inr not_here ↦ rw not_here (none_taken x ys (rw (cmp_rows y x, not_here) at free))
  ]

  pub without_rows : (k : ℕ) (xs : List X) → without_rowid (pos k) (map row xs) ≡ map row (filter (λ x. not (has k x)) xs)
  without_rows k [] = refl
  without_rows k (x ∷ xs) = elim (cases_Bool (has k x)) [
    | inl here ↦ rw (has_row k x, here) (without_rows k xs)
    | inr not_here ↦ rw (has_row k x, not_here) (ap (λ rest. row x ∷ rest) (without_rows k xs))
  ]

  -- the rows with a new one in the place of the one that has the key
  abbrev pub set : ℕ → (X → X) → List X → List X
  set k f = map (λ x. cond (has k x) (f x) x)

  same_some : (x y : X) → ◌≡◌ {A = Option X} (Some x) (Some y) → x ≡ y
  same_some x y e = cc

  pub found_has : (k : ℕ) (xs : List X) (x : X) → at_key k xs ≡ Some x → has k x ≡ true
  found_has k [] x found = absurd cc
  found_has k (y ∷ xs) x found = elim (cases_Bool (has k y)) [
    | inl here ↦ subst (λ z. has k z ≡ true) (same_some y x (rw here at found)) here
    | inr not_here ↦ found_has k xs x (rw not_here at found)
  ]

  found_above : (k : ℕ) (a : X) (xs : List X) (x : X) → Above a xs → at_key k xs ≡ Some x → nat_cmp (key a) (key x) ≡ Less
  found_above k a [] x above found = absurd cc
  found_above k a (y ∷ xs) x above found = elim (cases_Bool (has k y)) [
    | inl here ↦ subst (λ z. nat_cmp (key a) (key z) ≡ Less) (same_some y x (rw here at found)) (sym (cmp_rows a y) ∙ above.0)
    | inr not_here ↦ found_above k a xs x above.1 (rw not_here at found)
  ]

  reversed : (a b : ℕ) → nat_cmp a b ≡ Less → nat_cmp b a ≡ Greater
  reversed a b below = grind (arith, nat_tests)

  put_first : (y x : X) (xs : List X) → key y ≡ key x → Above x xs → put y xs ≡ y ∷ xs
  put_first y x [] same above = refl
  put_first y x (z ∷ zs) same above =
      ap (λ o. match_ordering o (z ∷ put y zs) (y ∷ zs) (y ∷ z ∷ zs)) (reversed (key y) (key z) (subst (λ m. nat_cmp m (key z) ≡ Less) (sym same)
      (sym (cmp_rows x z) ∙ above.0)))

  others_stay : (k : ℕ) (x : X) (xs : List X) → has k x ≡ true → Above x xs → filter (λ y. not (has k y)) xs ≡ xs
  others_stay k x [] here above = refl
  others_stay k x (y ∷ ys) here above = rw (later_differs (key x) (key y) k (sym (cmp_rows x y) ∙ above.0) here) (ap (λ rest. y
      ∷ rest) (others_stay k x ys here above.1))

  set_none : (k : ℕ) (f : X → X) (x : X) (xs : List X) → has k x ≡ true → Above x xs → set k f xs ≡ xs
  set_none k f x [] here above = refl
  set_none k f x (y ∷ ys) here above = rw (later_differs (key x) (key y) k (sym (cmp_rows x y) ∙ above.0) here) (ap (λ rest. y
      ∷ rest) (set_none k f x ys here above.1))

  set_put : (k : ℕ) (f : X → X) → ((x : X) → key (f x) ≡ key x) → (xs : List X) (x : X) → IsTable (map row xs) → at_key k xs ≡ Some x
      → put (f x) (filter (λ y. not (has k y)) xs) ≡ set k f xs
  set_put k f same [] x rise found = absurd cc
  set_put k f same (y ∷ ys) x rise found = elim (cases_Bool (has k y)) [
    | inl here ↦
        let is : y ≡ x = same_some y x (rw here at found) in
        rw here (rw (others_stay k y ys here rise.0, set_none k f y ys here rise.0) (rw (sym is) (put_first (f y) y ys (same y) rise.0)))
    | inr not_here ↦
        let rest : at_key k ys ≡ Some x = rw not_here at found in
        let low : nat_cmp (key y) (key (f x)) ≡ Less = subst (λ m. nat_cmp (key y) m ≡ Less) (sym (same x)) (found_above k y ys x rise.0 rest) in
        rw not_here (ap (λ o. match_ordering o (y ∷ put (f x) (filter (λ z. not (has k z)) ys)) (f x ∷ filter (λ z. not (has k z)) ys) (f x ∷ y
        ∷ filter (λ z. not (has k z)) ys)) low
        ∙ ap (λ more. y ∷ more) (set_put k f same ys x rise.1 rest))
  ]

  pub set_rows : (k : ℕ) (f : X → X) → ((x : X) → key (f x) ≡ key x) → (xs : List X) (x : X) → IsTable (map row xs) → at_key k xs ≡ Some x
      → put_row (row (f x)) (without_rowid (pos k) (map row xs)) ≡ map row (set k f xs)
  set_rows k f same xs x rise found =
      ap (put_row (row (f x))) (without_rows k xs) ∙ put_rows (f x) (filter (λ y. not (has k y)) xs) ∙ ap (map row) (set_put k f same xs x rise found)

  -- where none has the key
  pub set_missing : (k : ℕ) (f : X → X) (xs : List X) → at_key k xs ≡ None → set k f xs ≡ xs
  set_missing k f [] none = refl
  set_missing k f (y ∷ ys) none = elim (cases_Bool (has k y)) [
    | inl here ↦ absurd (let e = rw here at none in cc)
    | inr not_here ↦ rw not_here (ap (λ rest. y ∷ rest) (set_missing k f ys (rw not_here at none)))
  ]

  found_is : (k : ℕ) (y : X) → has k y ≡ true → key y ≡ k
  found_is k y is = grind (arith, nat_tests)

  -- where one has it, a change to this row is the same as putting it there
  pub set_is_put : (f : X → X) (new : X) → ((x : X) → key x ≡ key new → f x ≡ new) → (xs : List X) (x : X) → IsTable (map row xs)
      → at_key (key new) xs ≡ Some x → set (key new) f xs ≡ put new xs
  set_is_put f new same [] x rise found = absurd cc
  set_is_put f new same (y ∷ ys) x rise found = elim (cases_Bool (has (key new) y)) [
    | inl here ↦
        let k = found_is (key new) y here in
        rw here (rw (set_none (key new) f y ys here rise.0, same y k) (sym (put_here (nat_cmp (key y) (key new)) here)))
    | inr not_here ↦
        let rest : at_key (key new) ys ≡ Some x = rw not_here at found in
        let low : nat_cmp (key y) (key new) ≡ Less = subst (λ m. nat_cmp (key y) m ≡ Less) (found_is (key new) x (found_has (key new) ys x rest))
        (found_above (key new) y ys x rise.0 rest) in
        rw not_here (ap (λ more. y ∷ more) (set_is_put f new same ys x rise.1 rest)
        ∙ sym (ap (λ o. match_ordering o (y ∷ put new ys) (new ∷ ys) (new ∷ y ∷ ys)) low))
  ]
    where
      put_here : (o : Ordering) → is_eq o ≡ true → match_ordering o (y ∷ put new ys) (new ∷ ys) (new ∷ y ∷ ys) ≡ new ∷ ys
      put_here Less is = absurd cc
      put_here Equal is = refl
      put_here Greater is = absurd cc

  -- ---- many at once

  pub numbered_rows : (rows : List Row) (news : List X) → ((all : List Row) (x : X) → with_rowid Chosen all (row x) ≡ row x)
      → numbered Chosen rows (map row news) ≡ map row news
  numbered_rows rows [] same = refl
  numbered_rows rows (x ∷ news) same = rw (same rows x) (ap (λ more. row x ∷ more) (numbered_rows (put_row (row x) rows) news same))

  pub put_all_rows : (xs news : List X) → put_all (map row xs) (map row news) ≡ map row (fold (λ all x. put x all) xs news)
  put_all_rows xs [] = refl
  put_all_rows xs (x ∷ news) = ap (λ rows. put_all rows (map row news)) (put_rows x xs) ∙ put_all_rows (put x xs) news

pub IsTable-put_all : (rows news : List Row) → IsTable rows → IsTable (put_all rows news)
IsTable-put_all rows [] rise = rise
IsTable-put_all rows (r ∷ news) rise = IsTable-put_all (put_row r rows) news (IsTable-put_row r rows rise)
