-- Lists in the order of their keys, as rows come and go.
use Rattle.std.proofs.Common.{◌≢◌, ◌||◌, ◌≡◌, ◌<◌, ℕ, List, [], ◌∷◌, ◌++◌, map, filter, fold, Bool, true, false, not, cond, Less, Equal, Greater}
use Rattle.std.proofs.Common.{refl, sym, ap, subst, arith, ◌∙◌}
use Rattle.std.specs.List.{AllByRecursion, list_any}
use Rattle.std.specs.Ordering.{is_eq, nat_cmp, match_ordering}
use Rattle.std.specs.declared.cmp.Ordering.{Ordering}
use Rattle.std.proofs.lemmas.Bool.Decides.{nat_tests}
use Rattle.fuse_store_tables.specs.Content.{put_by, has_by, without_by}
use Rattle.fuse_store_tree.specs.Store.{in_order}
use Rattle.fuse_store_tree.proofs.Described.{Rises}

less_is : (a b : ℕ) → nat_cmp a b ≡ Less → a < b
less_is a b is = grind (arith, nat_tests)

equal_is : (a b : ℕ) → nat_cmp a b ≡ Equal → a ≡ b
equal_is a b is = grind (arith, nat_tests)

greater_is : (a b : ℕ) → nat_cmp a b ≡ Greater → b < a
greater_is a b is = grind (arith, nat_tests)

above_is : (a b : ℕ) → b < a → nat_cmp a b ≡ Greater
above_is a b low = grind (arith, nat_tests)

cases_cmp : (a b : ℕ) → (o : Ordering) × (nat_cmp a b ≡ o)
cases_cmp a b = (nat_cmp a b, refl)

module _ {X : Type 0} (key : X → ℕ) where
  abbrev put : X → List X → List X
  put = put_by key

  -- ---- what holds of each row

  pub all_put : (P : X → Type 0) (x : X) (xs : List X) → P x → AllByRecursion P xs → AllByRecursion P (put x xs)
  all_put P x [] p all = (p, tt)
  all_put P x (y ∷ ys) p all = by (all_put P x ys p all.1) (nat_cmp (key y) (key x))
    where
      by : AllByRecursion P (put x ys) → (o : Ordering) → AllByRecursion P (match_ordering o (y ∷ put x ys) (x ∷ ys) (x ∷ y ∷ ys))
      by more Less = (all.0, more)
      by more Equal = (p, all.1)
      by more Greater = (p, all)

  pub all_filter : (P : X → Type 0) (q : X → Bool) (xs : List X) → AllByRecursion P xs → AllByRecursion P (filter q xs)
  all_filter P q [] all = tt
  all_filter P q (x ∷ xs) all = by (all_filter P q xs all.1) (q x)
    where
      by : AllByRecursion P (filter q xs) → (b : Bool) → AllByRecursion P (cond b (x ∷ filter q xs) (filter q xs))
      by more true = (all.0, more)
      by more false = more

  higher : (a b : ℕ) (xs : List X) → a < b → AllByRecursion (λ x. b < key x) xs → AllByRecursion (λ x. a < key x) xs
  higher a b [] low all = tt
  higher a b (x ∷ xs) low all = (omega (arith, low, all.0), higher a b xs low all.1)

  same_above : (a b : ℕ) (xs : List X) → a ≡ b → AllByRecursion (λ x. a < key x) xs → AllByRecursion (λ x. b < key x) xs
  same_above a b xs is all = subst (λ n. AllByRecursion (λ x. n < key x) xs) is all

  pub rises_put : (x : X) (xs : List X) → Rises key xs → Rises key (put x xs)
  rises_put x [] rises = (tt, tt)
  rises_put x (y ∷ ys) rises = by (rises_put x ys rises.1) (nat_cmp (key y) (key x)) refl
    where
      by : Rises key (put x ys) → (o : Ordering) → nat_cmp (key y) (key x) ≡ o → Rises key (match_ordering o (y ∷ put x ys) (x ∷ ys) (x ∷ y ∷ ys))
      by more Less is = (all_put (λ z. key y < key z) x ys (less_is (key y) (key x) is) rises.0, more)
      by more Equal is = (same_above (key y) (key x) ys (equal_is (key y) (key x) is) rises.0, rises.1)
      by more Greater is = ((greater_is (key y) (key x) is, higher (key x) (key y) ys (greater_is (key y) (key x) is) rises.0), rises)

  rises_fold : (done xs : List X) → Rises key done → Rises key (fold (λ all x. put x all) done xs)
  rises_fold done [] rises = rises
  rises_fold done (x ∷ xs) rises = rises_fold (put x done) xs (rises_put x done rises)

  pub rises_in_order : (xs : List X) → Rises key (in_order key xs)
  rises_in_order xs = rises_fold [] xs tt

  pub all_in_order : (P : X → Type 0) (xs : List X) → AllByRecursion P xs → AllByRecursion P (in_order key xs)
  all_in_order P xs all = more [] xs tt all
    where
      more : (done ys : List X) → AllByRecursion P done → AllByRecursion P ys → AllByRecursion P (fold (λ l y. put y l) done ys)
      more done [] p q = p
      more done (y ∷ ys) p q = more (put y done) ys (all_put P y done q.0 p) q.1

  -- ---- one more

  pub one_more : (x : X) (xs : List X) → put x (in_order key xs) ≡ in_order key (xs ++ x ∷ [])
  one_more x xs = more [] xs
    where
      more : (done ys : List X) → put x (fold (λ all y. put y all) done ys) ≡ fold (λ all y. put y all) done (ys ++ x ∷ [])
      more done [] = refl
      more done (y ∷ ys) = more (put y done) ys

  -- ---- one in the place of another

  put_at : (x z : X) (zs : List X) (o : Ordering) → nat_cmp (key z) (key x) ≡ o → put x (z ∷ zs) ≡ match_ordering o (z ∷ put x zs) (x ∷ zs) (x ∷ z ∷ zs)
  put_at x z zs o is = ap (λ r. match_ordering r (z ∷ put x zs) (x ∷ zs) (x ∷ z ∷ zs)) is

  same_cmp : (a b : ℕ) → a ≡ b → nat_cmp a b ≡ Equal
  same_cmp a b is = grind (arith, nat_tests)

  less_cmp : (a b : ℕ) → a < b → nat_cmp a b ≡ Less
  less_cmp a b low = grind (arith, nat_tests)

  absorb : (x y : X) (zs : List X) → key x ≡ key y → put x (put y zs) ≡ put x zs
  absorb x y [] is = put_at x y [] Equal (same_cmp (key y) (key x) (sym is))
  absorb x y (z ∷ zs) is = by (absorb x y zs is) (nat_cmp (key z) (key y)) refl
    where
      to_x : (o : Ordering) → nat_cmp (key z) (key y) ≡ o → nat_cmp (key z) (key x) ≡ o
      to_x o e = ap (λ n. nat_cmp (key z) n) is ∙ e

      by : put x (put y zs) ≡ put x zs → (o : Ordering) → nat_cmp (key z) (key y) ≡ o → put x (match_ordering o (z ∷ put y zs) (y ∷ zs) (y ∷ z ∷ zs)) ≡ put x (z
          ∷ zs)
      by more Less e = put_at x z (put y zs) Less (to_x Less e) ∙ ap (λ l. z ∷ l) more ∙ sym (put_at x z zs Less (to_x Less e))
      by more Equal e = put_at x y zs Equal (same_cmp (key y) (key x) (sym is)) ∙ sym (put_at x z zs Equal (to_x Equal e))
      by more Greater e = put_at x y (z ∷ zs) Equal (same_cmp (key y) (key x) (sym is)) ∙ sym (put_at x z zs Greater (to_x Greater e))

  -- x before y
  swap_less : (x y : X) (zs : List X) → key x < key y → put x (put y zs) ≡ put y (put x zs)
  swap_less x y [] low = put_at x y [] Greater (above_is (key y) (key x) low) ∙ sym (put_at y x [] Less (less_cmp (key x) (key y) low))
  swap_less x y (z ∷ zs) low = by (swap_less x y zs low) (nat_cmp (key z) (key x)) refl (nat_cmp (key z) (key y)) refl
    where
      yx : nat_cmp (key y) (key x) ≡ Greater
      yx = above_is (key y) (key x) low

      xy : nat_cmp (key x) (key y) ≡ Less
      xy = less_cmp (key x) (key y) low

      by : put x (put y zs) ≡ put y (put x zs) → (o : Ordering) → nat_cmp (key z) (key x) ≡ o → (p : Ordering) → nat_cmp (key z) (key y) ≡ p
          → put x (match_ordering p (z ∷ put y zs) (y ∷ zs) (y ∷ z ∷ zs)) ≡ put y (match_ordering o (z ∷ put x zs) (x ∷ zs) (x ∷ z ∷ zs))
      by more Less e Less f = put_at x z (put y zs) Less e ∙ ap (λ l. z ∷ l) more ∙ sym (put_at y z (put x zs) Less f)
      by more Less e Equal f = absurd (omega (arith, low, less_is (key z) (key x) e, equal_is (key z) (key y) f))
      by more Less e Greater f = absurd (omega (arith, low, less_is (key z) (key x) e, greater_is (key z) (key y) f))
      by more Equal e Less f = put_at x z (put y zs) Equal e ∙ sym (put_at y x zs Less xy)
      by more Equal e Equal f = absurd (omega (arith, low, equal_is (key z) (key x) e, equal_is (key z) (key y) f))
      by more Equal e Greater f = absurd (omega (arith, low, equal_is (key z) (key x) e, greater_is (key z) (key y) f))
      by more Greater e Less f = put_at x z (put y zs) Greater e ∙ ap (λ l. x ∷ l) (sym (put_at y z zs Less f)) ∙ sym (put_at y x (z ∷ zs) Less xy)
      by more Greater e Equal f = put_at x y zs Greater yx ∙ ap (λ l. x ∷ l) (sym (put_at y z zs Equal f)) ∙ sym (put_at y x (z ∷ zs) Less xy)
      by more Greater e Greater f = put_at x y (z ∷ zs) Greater yx ∙ ap (λ l. x ∷ l) (sym (put_at y z zs Greater f)) ∙ sym (put_at y x (z ∷ zs) Less xy)

  swap : (x y : X) (zs : List X) → nat_cmp (key x) (key y) ≢ Equal → put x (put y zs) ≡ put y (put x zs)
  swap x y zs apart = by (nat_cmp (key x) (key y)) refl
    where
      by : (o : Ordering) → nat_cmp (key x) (key y) ≡ o → put x (put y zs) ≡ put y (put x zs)
      by Less e = swap_less x y zs (less_is (key x) (key y) e)
      by Equal e = absurd (apart e)
      by Greater e = sym (swap_less y x zs (greater_is (key x) (key y) e))

  module _ (new : X) where
    abbrev pub repl : X → X
    repl y = cond (has_by key (key new) y) new y

    is_new : (y : X) → has_by key (key new) y ≡ true → key y ≡ key new
    is_new y is = let n : (a b : ℕ) → is_eq (nat_cmp a b) ≡ true → a ≡ b = λ a b e. grind (arith, nat_tests) in n (key y) (key new) is

    not_new : (y : X) → has_by key (key new) y ≡ false → nat_cmp (key new) (key y) ≢ Equal
    not_new y is same = let n : (a b : ℕ) → is_eq (nat_cmp b a) ≡ false → a ≢ b = λ a b e f. grind (arith, nat_tests) in n (key new) (key y) is
        (equal_is (key new) (key y) same)

    -- with the new one there already
    put_repl : (done ys : List X) → fold (λ all y. put y all) (put new done) (map repl ys) ≡ put new (fold (λ all y. put y all) done ys)
    put_repl done [] = refl
    put_repl done (y ∷ ys) = by (has_by key (key new) y) refl (put_repl (put y done) ys)
      where
        by : (b : Bool) → has_by key (key new) y ≡ b → fold (λ all x. put x all) (put new (put y done)) (map repl ys) ≡ put new (fold (λ all x. put x all)
            (put y done) ys)
            → fold (λ all x. put x all) (put (cond b new y) (put new done)) (map repl ys) ≡ put new (fold (λ all x. put x all) (put y done) ys)
        by true is more = ap (λ l. fold (λ all x. put x all) l (map repl ys)) (absorb new new done refl ∙ sym (absorb new y done (sym (is_new y is)))) ∙ more
        by false is more = ap (λ l. fold (λ all x. put x all) l (map repl ys)) (sym (swap new y done (not_new y is))) ∙ more

    -- with one of its number among those that come
    replaced : (done ys : List X) → list_any (has_by key (key new)) ys ≡ true → put new (fold (λ all y. put y all) done ys) ≡ fold (λ all y. put y all) done
        (map repl ys)
    replaced done [] there = absurd cc
    replaced done (y ∷ ys) there = by (has_by key (key new) y) refl there (λ e. replaced (put y done) ys e) (put_repl (put y done) ys)
      where
        by : (b : Bool) → has_by key (key new) y ≡ b → (b || list_any (has_by key (key new)) ys) ≡ true
            → (list_any (has_by key (key new)) ys ≡ true → put new (fold (λ all x. put x all) (put y done) ys) ≡ fold (λ all x. put x all) (put y done)
            (map repl ys))
            → fold (λ all x. put x all) (put new (put y done)) (map repl ys) ≡ put new (fold (λ all x. put x all) (put y done) ys)
            → put new (fold (λ all x. put x all) (put y done) ys) ≡ fold (λ all x. put x all) (put (cond b new y) done) (map repl ys)
        by true is e more here = sym here ∙ ap (λ l. fold (λ all x. put x all) l (map repl ys)) (absorb new y done (sym (is_new y is)))
        by false is e more here = more e

    pub one_replaced : (ys : List X) → list_any (has_by key (key new)) ys ≡ true → put new (in_order key ys) ≡ in_order key (map repl ys)
    one_replaced ys there = replaced [] ys there

  -- ---- one gone

  put_first : (x : X) (xs : List X) → AllByRecursion (λ y. key x < key y) xs → put x xs ≡ x ∷ xs
  put_first x [] above = refl
  put_first x (y ∷ ys) above = ap (λ o. match_ordering o (y ∷ put x ys) (x ∷ ys) (x ∷ y ∷ ys)) (above_is (key y) (key x) above.0)

  module _ (k : ℕ) where
    abbrev left : X → Bool
    left y = not (has_by key k y)

    abbrev without : List X → List X
    without = without_by key k

    same_has : (x y : X) → key y ≡ key x → has_by key k y ≡ has_by key k x
    same_has x y is = ap (λ n. is_eq (nat_cmp n k)) is

    put_without : (x : X) (xs : List X) → Rises key xs → without (put x xs) ≡ cond (has_by key k x) (without xs) (put x (without xs))
    put_without x [] rises = by (has_by key k x)
      where
        by : (b : Bool) → cond (not b) (x ∷ []) [] ≡ cond b [] (x ∷ [])
        by true = refl
        by false = refl
    put_without x (y ∷ ys) rises = by (put_without x ys rises.1) (nat_cmp (key y) (key x)) refl
      where
        low : nat_cmp (key y) (key x) ≡ Less → (b d : Bool) → without (put x ys) ≡ cond b (without ys) (put x (without ys))
            → cond d (y ∷ without (put x ys)) (without (put x ys)) ≡ cond b (cond d (y ∷ without ys) (without ys))
            (put x (cond d (y ∷ without ys) (without ys)))
        low is true true e = ap (λ l. y ∷ l) e
        low is true false e = e
        low is false true e = ap (λ l. y ∷ l) e ∙ sym (ap (λ o. match_ordering o (y ∷ put x (without ys)) (x ∷ without ys) (x ∷ y ∷ without ys)) is)
        low is false false e = e

        even : nat_cmp (key y) (key x) ≡ Equal → (b d : Bool) → d ≡ not b → cond (not b) (x ∷ without ys) (without ys) ≡ cond b (cond d (y
            ∷ without ys) (without ys)) (put x (cond d (y ∷ without ys) (without ys)))
        even is true true e = absurd cc
        even is true false e = refl
        even is false true e = sym (ap (λ o. match_ordering o (y ∷ put x (without ys)) (x ∷ without ys) (x ∷ y ∷ without ys)) is)
        even is false false e = absurd cc

        high : nat_cmp (key y) (key x) ≡ Greater → (b : Bool) → cond (not b) (x ∷ without (y ∷ ys)) (without (y ∷ ys)) ≡ cond b (without (y ∷ ys))
            (put x (without (y ∷ ys)))
        high is true = refl
        high is false =
            let above = greater_is (key y) (key x) is in
            sym (put_first x (without (y ∷ ys)) (all_filter (λ z. key x < key z) left (y ∷ ys) (above, higher (key x) (key y) ys above rises.0)))

        by : without (put x ys) ≡ cond (has_by key k x) (without ys) (put x (without ys)) → (o : Ordering) → nat_cmp (key y) (key x) ≡ o
            → without (match_ordering o (y ∷ put x ys) (x ∷ ys) (x ∷ y ∷ ys)) ≡ cond (has_by key k x) (without (y ∷ ys)) (put x (without (y ∷ ys)))
        by more Less is = low is (has_by key k x) (left y) more
        by more Equal is = even is (has_by key k x) (left y) (ap not (same_has x y (equal_is (key y) (key x) is)))
        by more Greater is = high is (has_by key k x)

    gone : (done xs : List X) → Rises key done → without (fold (λ all x. put x all) done xs) ≡ fold (λ all x. put x all) (without done) (without xs)
    gone done [] rises = refl
    gone done (x ∷ xs) rises = gone (put x done) xs (rises_put x done rises) ∙ ap (λ l. fold (λ all y. put y all) l (without xs)) (put_without x done rises)
        ∙ by (has_by key k x)
      where
        by : (b : Bool) → fold (λ all y. put y all) (cond b (without done) (put x (without done))) (without xs) ≡ fold (λ all y. put y all) (without done)
            (cond (not b) (x ∷ without xs) (without xs))
        by true = refl
        by false = refl

    pub one_gone : (xs : List X) → without (in_order key xs) ≡ in_order key (without xs)
    one_gone xs = gone [] xs tt
