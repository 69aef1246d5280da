-- The order of keys.
use Rattle.std.proofs.Common.{◌≡◌, ◌≢◌, ℕ, true, false, not, List, [], ◌∷◌, refl, sym, ap, subst, arith, ◌∙◌}
use Rattle.std.specs.Cmp.Lexicographic.{bytes_decides, texts_ties, nat_list_cmp_total}
use Rattle.std.proofs.Common.{Ordering, Less, Equal, Greater}
use Rattle.std.specs.Ordering.{is_eq, is_gt, is_ge, is_lt, nat_cmp, ordering_reverse, ordering_then}
use Rattle.std.proofs.lemmas.Bool.{false_from_ne_true}
use Rattle.std.proofs.lemmas.Bool.Decides.{nat_tests}
use Rattle.fuse_guest.specs.Pairs.{key_order, is_key_below, is_same_key}
use Rattle.guest_tables.specs.inner.Slices.{next_key}

pub same_itself : (k : List ℕ) → is_same_key k k ≡ true
same_itself k = (bytes_decides k k).1 refl

pub same_is : (j k : List ℕ) → is_same_key j k ≡ true → j ≡ k
same_is j k same = (bytes_decides j k).0 same

pub not_same : (j k : List ℕ) → j ≢ k → is_same_key j k ≡ false
not_same j k other = false_from_ne_true (is_same_key j k) (λ same. other (same_is j k same))

pub same_by : (j k : List ℕ) (o : Ordering) → key_order j k ≡ o → is_same_key j k ≡ is_eq o
same_by j k o order = texts_ties j k ∙ ap is_eq order

pub equal_is : (j k : List ℕ) → key_order j k ≡ Equal → j ≡ k
equal_is j k order = same_is j k (same_by j k Equal order)

-- the other way round
pub turned : (j k : List ℕ) (o : Ordering) → key_order j k ≡ o → key_order k j ≡ ordering_reverse o
turned j k o order = nat_list_cmp_total.antisymm k j ∙ ap ordering_reverse order

pub less_less : (i j k : List ℕ) → key_order i j ≡ Less → key_order j k ≡ Less → key_order i k ≡ Less
less_less i j k first second = nat_list_cmp_total.trans i j k first second

not_itself : (j k : List ℕ) → is_same_key j k ≡ false → j ≢ k
not_itself j k other same = let is = subst (λ x. is_same_key j x ≡ false) (sym same) other in absurd (let both = sym (same_itself j) ∙ is in cc)

pub other_way : (j k : List ℕ) → is_same_key j k ≡ false → is_same_key k j ≡ false
other_way j k other = not_same k j (λ same. not_itself j k other (sym same))

less_or_greater : Less ≡ Greater → ⊥
less_or_greater same = absurd cc

-- two keys aren't each below the other
pub one_way : (j k : List ℕ) → key_order j k ≡ Less → key_order k j ≡ Less → ⊥
one_way j k first second = less_or_greater (sym first ∙ turned k j Less second)

pub less_differs : (j k : List ℕ) → key_order j k ≡ Less → is_same_key j k ≡ false
less_differs j k less = same_by j k Less less

-- ---- what an order that is no greater says

below_by : (o : Ordering) → is_gt (ordering_then o Equal) ≡ false → is_eq o ≡ false → o ≡ Less
below_by Less low other = refl
below_by Equal low other = absurd cc
below_by Greater low other = absurd cc

pub below_if : (j k : List ℕ) → is_gt (ordering_then (key_order j k) Equal) ≡ false → is_same_key j k ≡ false → key_order j k ≡ Less
below_if j k low other = below_by (key_order j k) low (sym (texts_ties j k) ∙ other)

-- ---- tests

pub ge_is : (o : Ordering) → is_ge o ≡ not (is_lt o)
ge_is Less = refl
ge_is Equal = refl
ge_is Greater = refl

lt_is : (o : Ordering) → is_lt o ≡ true → o ≡ Less
lt_is Less is = refl
lt_is Equal is = absurd cc
lt_is Greater is = absurd cc

-- the test and its relation
pub below_is : (j k : List ℕ) → is_key_below j k ≡ true → key_order j k ≡ Less
below_is j k is = lt_is (key_order j k) is

pub is_below : (j k : List ℕ) → key_order j k ≡ Less → is_key_below j k ≡ true
is_below j k less = ap is_lt less

-- at or above, and then above
pub from_on : (from j k : List ℕ) → is_ge (key_order j from) ≡ true → key_order j k ≡ Less → is_ge (key_order k from) ≡ true
from_on from j k low less = at (key_order k from) refl
  where
    at : (o : Ordering) → key_order k from ≡ o → is_ge o ≡ true
    at Less is = absurd (let below = less_less j k from less is in let off = subst (λ o. is_ge o ≡ true) below low in cc)
    at Equal is = refl
    at Greater is = refl

-- ---- the first key after another one has a 0 byte more

by_first : (x a : ℕ) (o p : Ordering) → is_lt o ≡ not (is_lt p) → is_lt (ordering_then (nat_cmp x a) o) ≡ not (is_lt (ordering_then (nat_cmp a x) p))
by_first x a o p rest = by (nat_cmp x a) (nat_cmp a x) (ranked x a)
  where
    ranked : (x a : ℕ) → nat_cmp a x ≡ ordering_reverse (nat_cmp x a)
    ranked x a = grind (arith, nat_tests)

    by : (m n : Ordering) → n ≡ ordering_reverse m → is_lt (ordering_then m o) ≡ not (is_lt (ordering_then n p))
    by Less n is = ap (λ z. not (is_lt (ordering_then z p))) (sym is)
    by Equal n is = rest ∙ ap (λ z. not (is_lt (ordering_then z p))) (sym is)
    by Greater n is = ap (λ z. not (is_lt (ordering_then z p))) (sym is)

none_below_nil : (xs : List ℕ) → is_lt (key_order xs []) ≡ false
none_below_nil [] = refl
none_below_nil (x ∷ xs) = refl

zero_least : (x : ℕ) (o : Ordering) → is_lt o ≡ false → is_lt (ordering_then (nat_cmp x 0) o) ≡ false
zero_least x o off = by (nat_cmp x 0) (least x)
  where
    least : (x : ℕ) → is_lt (nat_cmp x 0) ≡ false
    least x = grind (arith, nat_tests)

    by : (m : Ordering) → is_lt m ≡ false → is_lt (ordering_then m o) ≡ false
    by Less is = absurd cc
    by Equal is = off
    by Greater is = refl

pub next_above : (j k : List ℕ) → is_key_below j (next_key k) ≡ not (is_key_below k j)
next_above [] [] = refl
next_above (x ∷ j) [] = zero_least x (key_order j []) (none_below_nil j)
next_above [] (a ∷ k) = refl
next_above (x ∷ j) (a ∷ k) = by_first x a (key_order j (next_key k)) (key_order k j) (next_above j k)
