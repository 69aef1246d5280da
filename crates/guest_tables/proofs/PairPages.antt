-- The next page of a scan: what is left after the last key.
use Rattle.std.proofs.Common.{◌≡◌, ℕ, Bool, true, false, not, ◌&&◌, List, [], ◌∷◌, ◌++◌, filter, reverse, refl, sym, ap, subst, ◌∙◌}
use Rattle.std.proofs.Common.{Ordering, Less, Equal, Greater}
use Rattle.std.specs.List.{AllByRecursion}
use Rattle.std.specs.Ordering.{is_eq, is_ge, is_lt}
use Rattle.std.proofs.lemmas.List.{append-nil, reverse-append, reverse-reverse}
use Rattle.std.proofs.lemmas.List.Elements.{filter-append}
use Rattle.sqlite_trees.specs.Tree.{IsAscending}
use Rattle.sqlite_trees.proofs.ListLemmas.{all_weaker, all-append, filter_all, filter_none, filter-filter, ascending-filter}
use Rattle.guest_frames.specs.Frames.{PairContent}
use Rattle.fuse_guest.specs.Pairs.{Pairs, key_order, is_key_below}
use Rattle.guest_tables.proofs.any_schema.Strictly.{passing}
use Rattle.guest_tables.specs.inner.Slices.{is_in_slice, slice_of, next_key}
use Rattle.guest_tables.proofs.PairKeys.{same_itself, same_by, turned, less_less, ge_is, from_on, next_above, is_below, below_is}
use Rattle.guest_tables.proofs.PairOrder.{Rises, IsBefore}

-- ---- lists in two parts

module _ {X : Type 0} (R : X → X → Type 0) where
  -- of a list that rises, each one of the first part is before each one of the rest
  pub parts : (xs ys : List X) → IsAscending R (xs ++ ys) → AllByRecursion (λ x. AllByRecursion (R x) ys) xs
  parts [] ys up = tt
  parts (x ∷ xs) ys up = (tail_all (R x) xs ys up.0, parts xs ys up.1)
    where
      tail_all : (P : X → Type 0) (xs ys : List X) → AllByRecursion P (xs ++ ys) → AllByRecursion P ys
      tail_all P [] ys all = all
      tail_all P (y ∷ xs) ys all = tail_all P xs ys all.1

  pub later_part : (xs ys : List X) → IsAscending R (xs ++ ys) → IsAscending R ys
  later_part [] ys up = up
  later_part (x ∷ xs) ys up = later_part xs ys up.1

all_first : {X : Type 0} (P : X → Type 0) (xs ys : List X) → AllByRecursion P (xs ++ ys) → AllByRecursion P xs
all_first P [] ys all = tt
all_first P (x ∷ xs) ys all = (all.0, all_first P xs ys all.1)

all_later : {X : Type 0} (P : X → Type 0) (xs ys : List X) → AllByRecursion P (xs ++ ys) → AllByRecursion P ys
all_later P [] ys all = all
all_later P (x ∷ xs) ys all = all_later P xs ys all.1

reverse_all : {X : Type 0} (P : X → Type 0) (xs : List X) → AllByRecursion P xs → AllByRecursion P (reverse xs)
reverse_all P [] all = tt
reverse_all P (x ∷ xs) all =
    subst (AllByRecursion P) (sym (reverse-append (x ∷ []) xs)) (all-append P (reverse xs) (x ∷ []) (reverse_all P xs all.1) (all.0, tt))

-- ---- the tests

not_not : (b : Bool) → not (not b) ≡ b
not_not true = refl
not_not false = refl

-- from the next key on is above the key
ge_next : (k j : List ℕ) → is_ge (key_order j (next_key k)) ≡ is_key_below k j
ge_next k j = ge_is (key_order j (next_key k)) ∙ ap not (next_above j k) ∙ not_not (is_key_below k j)

order_self : (k : List ℕ) → key_order k k ≡ Equal
order_self k = by (key_order k k) (sym (same_by k k (key_order k k) refl) ∙ same_itself k)
  where
    by : (o : Ordering) → is_eq o ≡ true → o ≡ Equal
    by Less is = absurd cc
    by Equal is = refl
    by Greater is = absurd cc

not_below_self : (k : List ℕ) → is_key_below k k ≡ false
not_below_self k = ap is_lt (order_self k)

not_below : (k j : List ℕ) → key_order j k ≡ Less → is_key_below k j ≡ false
not_below k j less = ap is_lt (turned j k Less less)

first_of : (a b : Bool) → (a && b) ≡ true → a ≡ true
first_of true b is = refl
first_of false b is = is

second_of : (a b : Bool) → (a && b) ≡ true → b ≡ true
second_of true b is = is
second_of false b is = absurd cc

both : (a b : Bool) → a ≡ true → b ≡ true → (a && b) ≡ true
both true b is also = also
both false b is also = absurd cc

not_first : (a b : Bool) → a ≡ false → (a && b) ≡ false
not_first true b is = absurd cc
not_first false b is = refl

not_second : (a b : Bool) → b ≡ false → (a && b) ≡ false
not_second true b is = is
not_second false b is = refl

at_least : (bounded : Bool) (from to key : List ℕ) → is_in_slice bounded from to key ≡ true → is_ge (key_order key from) ≡ true
at_least true from to key is = first_of _ _ is
at_least false from to key is = is

-- ---- upwards

up_yes : (bounded : Bool) (from to last key : List ℕ) → is_in_slice bounded from to key ≡ true → key_order last key ≡ Less
    → is_in_slice bounded (next_key last) to key ≡ true
up_yes true from to last key is above = both _ _ (ge_next last key ∙ is_below last key above) (second_of _ _ is)
up_yes false from to last key is above = ge_next last key ∙ is_below last key above

up_no : (bounded : Bool) (to last key : List ℕ) → is_key_below last key ≡ false → is_in_slice bounded (next_key last) to key ≡ false
up_no true to last key not_above = not_first _ _ (ge_next last key ∙ not_above)
up_no false to last key not_above = ge_next last key ∙ not_above

up_within : (bounded : Bool) (from to last key : List ℕ) → is_ge (key_order last from) ≡ true → is_in_slice bounded (next_key last) to key ≡ true
    → is_in_slice bounded from to key ≡ true
up_within true from to last key low is =
    both _ _ (from_on from last key low (below_is last key (sym (ge_next last key) ∙ first_of _ _ is))) (second_of _ _ is)
up_within false from to last key low is = from_on from last key low (below_is last key (sym (ge_next last key) ∙ is))

pub after_up : (bounded : Bool) (from to : List ℕ) (ps xs : Pairs) (p : PairContent) (ys : Pairs) → Rises ps
    → slice_of bounded from to ps ≡ (xs ++ p ∷ []) ++ ys → slice_of bounded (next_key p.key) to ps ≡ ys
after_up bounded from to ps xs p ys up are =
    let test = λ (q : PairContent). is_in_slice bounded (next_key p.key) to q.key in
    let old = λ (q : PairContent). is_in_slice bounded from to q.key in
    let front = xs ++ p ∷ [] in
    let rises : Rises (front ++ ys) = subst Rises are (ascending-filter IsBefore old ps up) in
    let in_old : AllByRecursion (λ q. old q ≡ true) (front ++ ys) = subst (AllByRecursion (λ q. old q ≡ true)) are (passing old ps) in
    let in_front = all_first (λ q. old q ≡ true) front ys in_old in
    let p_in : old p ≡ true = (all_later (λ q. old q ≡ true) xs (p ∷ []) in_front).0 in
    let low = at_least bounded from to p.key p_in in
    let before : AllByRecursion (λ q. AllByRecursion (IsBefore q) (p ∷ [])) xs =
    parts IsBefore xs (p ∷ []) (first_rises front ys rises) in
    let above : AllByRecursion (IsBefore p) ys = (all_later (λ q. AllByRecursion (IsBefore q) ys) xs (p ∷ []) (parts IsBefore front ys rises)).0 in
    let none_front : AllByRecursion (λ q. test q ≡ false) front =
    all-append (λ q. test q ≡ false) xs (p ∷ [])
    (all_weaker (λ q. AllByRecursion (IsBefore q) (p ∷ [])) (λ q. test q ≡ false) (λ q b. up_no bounded to p.key q.key (not_below p.key q.key b.0)) xs before)
    (up_no bounded to p.key p.key (not_below_self p.key), tt) in
    let all_ys : AllByRecursion (λ q. test q ≡ true) ys =
    both_all (λ q. old q ≡ true) (IsBefore p) (λ q. test q ≡ true) (λ q o b. up_yes bounded from to p.key q.key o b) ys
    (all_later (λ q. old q ≡ true) front ys in_old) above in
    sym (filter-filter test old (λ q is. up_within bounded from to p.key q.key low is) ps) ∙ ap (filter test) are ∙ filter-append test front ys
    ∙ ap (λ l. l ++ filter test ys) (filter_none test front none_front) ∙ filter_all test ys all_ys
  where
    first_rises : (xs ys : Pairs) → Rises (xs ++ ys) → Rises xs
    first_rises [] ys up = tt
    first_rises (x ∷ xs) ys up = (all_first (IsBefore x) xs ys up.0, first_rises xs ys up.1)

    both_all : (P Q R : PairContent → Type 0) → ((q : PairContent) → P q → Q q → R q) → (ys : Pairs) → AllByRecursion P ys → AllByRecursion Q ys → AllByRecursion R ys
    both_all P Q R f [] a b = tt
    both_all P Q R f (y ∷ ys) a b = (f y a.0 b.0, both_all P Q R f ys a.1 b.1)

-- ---- downwards

below_bound : (bounded : Bool) (from to last key : List ℕ) → is_in_slice bounded from to last ≡ true → is_ge (key_order key from) ≡ true
    → key_order key last ≡ Less → is_in_slice bounded from to key ≡ true
below_bound true from to last key is low less =
    both _ _ low (is_below key to (less_less key last to less (below_is last to (second_of _ _ is))))
below_bound false from to last key is low less = low

pub after_down : (bounded : Bool) (from to : List ℕ) (ps xs : Pairs) (p : PairContent) (ys : Pairs) → Rises ps
    → reverse (slice_of bounded from to ps) ≡ (xs ++ p ∷ []) ++ ys → reverse (slice_of true from p.key ps) ≡ ys
after_down bounded from to ps xs p ys up are =
    let test = λ (q : PairContent). is_in_slice true from p.key q.key in
    let old = λ (q : PairContent). is_in_slice bounded from to q.key in
    let front = reverse ys in
    let back = p ∷ reverse xs in
    let slice : slice_of bounded from to ps ≡ front ++ back =
    sym (reverse-reverse (slice_of bounded from to ps)) ∙ ap reverse are ∙ reverse-append (xs ++ p ∷ []) ys
    ∙ ap (λ l. front ++ l) (reverse-append xs (p ∷ [])) in
    let rises : Rises (front ++ back) = subst Rises slice (ascending-filter IsBefore old ps up) in
    let in_old : AllByRecursion (λ q. old q ≡ true) (front ++ back) = subst (AllByRecursion (λ q. old q ≡ true)) slice (passing old ps) in
    let p_in : old p ≡ true = (all_later (λ q. old q ≡ true) front back in_old).0 in
    let below : AllByRecursion (λ q. AllByRecursion (IsBefore q) back) front = parts IsBefore front back rises in
    let above : AllByRecursion (IsBefore p) (reverse xs) = (later_part IsBefore front back rises).0 in
    let all_front : AllByRecursion (λ q. test q ≡ true) front =
    both_all (λ q. old q ≡ true) (λ q. AllByRecursion (IsBefore q) back) (λ q. test q ≡ true)
    (λ q o b. both _ _ (at_least bounded from to q.key o) (is_below q.key p.key b.0)) front (all_first (λ q. old q ≡ true) front back in_old) below in
    let none_back : AllByRecursion (λ q. test q ≡ false) back = (
      not_second _ _ (not_below_self p.key),
      all_weaker (IsBefore p) (λ q. test q ≡ false) (λ q a. not_second _ _ (not_below q.key p.key a)) (reverse xs) above,
    ) in
    ap reverse
    (sym (filter-filter test old (λ q is. below_bound bounded from to p.key q.key p_in (first_of _ _ is) (below_is q.key p.key (second_of _ _ is))) ps)
    ∙ ap (filter test) slice ∙ filter-append test front back
    ∙ ap (λ l. l ++ filter test back) (filter_all test front all_front) ∙ ap (λ l. front ++ l) (filter_none test back none_back) ∙ append-nil front)
    ∙ reverse-reverse ys
  where
    both_all : (P Q R : PairContent → Type 0) → ((q : PairContent) → P q → Q q → R q) → (ys : Pairs) → AllByRecursion P ys → AllByRecursion Q ys → AllByRecursion R ys
    both_all P Q R f [] a b = tt
    both_all P Q R f (y ∷ ys) a b = (f y a.0 b.0, both_all P Q R f ys a.1 b.1)
