-- Pairs in the order of their keys: two lists in this order with the same pairs are the same.
use Rattle.std.proofs.Common.{◌≡◌, ◌⊎◌, inl, inr, ℕ, true, false, not, cond, List, [], ◌∷◌, reverse, refl, sym, ap, subst, ◌∙◌}
use Rattle.std.proofs.Common.{Ordering, Less, Equal, Greater}
use Rattle.std.specs.List.{AllByRecursion}
use Rattle.std.specs.List.Sorted.{IsPermutation}
use Rattle.std.proofs.lemmas.Bool.{not_from_false}
use Rattle.std.proofs.lemmas.List.{reverse-append}
use Rattle.std.proofs.lemmas.List.Sorted.{IsPermutation-refl, IsPermutation-sym, IsPermutation-trans, IsPermutation-cons, IsPermutation-middle}
use Rattle.sqlite_trees.specs.Tree.{IsAscending}
use Rattle.sqlite_trees.proofs.ListLemmas.{all_weaker, all-append, all-filter, all-permutation, ascending-append, filter_all}
use Rattle.sqlite_rules.specs.Lists.{Has}
use Rattle.sqlite_rules.proofs.ListLemmas.{all_has}
use Rattle.guest_frames.specs.Frames.{PairContent}
use Rattle.fuse_guest.specs.Pairs.{Pairs, key_order, is_same_key, place_by, put_pair, without_key}
use Rattle.guest_tables.proofs.PairKeys.{same_by, equal_is, turned, less_less, other_way, one_way, less_differs}

-- ---- lists that rise by an order

module _ {X : Type 0} (Before : X → X → Type 0) (never_both : (a b : X) → Before a b → Before b a → ⊥) where
  has_all : (xs ys : List X) → ((x : X) → Has xs x → Has ys x) → AllByRecursion (Has ys) xs
  has_all [] ys all = tt
  has_all (x ∷ xs) ys all = (all x (inl refl), has_all xs ys (λ z h. all z (inr h)))

  heads : (x y : X) (xs ys : List X) → AllByRecursion (Before x) xs → AllByRecursion (Before y) ys → (y ≡ x) ⊎ Has xs y → (x ≡ y) ⊎ Has ys x → y ≡ x
  heads x y xs ys up down (inl is) there = is
  heads x y xs ys up down (inr later) (inl is) = sym is
  heads x y xs ys up down (inr later) (inr after) = absurd (never_both x y (all_has (Before x) xs y up later) (all_has (Before y) ys x down after))

  tail_has : (x : X) (xs ys : List X) → AllByRecursion (Before x) ys → ((z : X) → Has (x ∷ ys) z → Has (x ∷ xs) z) → (z : X) → Has ys z → Has xs z
  tail_has x xs ys up all z h = by (all z (inr h))
    where
      by : (z ≡ x) ⊎ Has xs z → Has xs z
      by (inl is) = let self = subst (Before x) is (all_has (Before x) ys z up h) in absurd (never_both x x self self)
      by (inr later) = later

  same_lists : (xs ys : List X) → IsAscending Before xs → IsAscending Before ys → ((z : X) → Has ys z → Has xs z) → ((z : X) → Has xs z → Has ys z) → ys ≡ xs
  same_lists [] [] up down to back = refl
  same_lists [] (y ∷ ys) up down to back = absurd (to y (inl refl))
  same_lists (x ∷ xs) [] up down to back = absurd (back x (inl refl))
  same_lists (x ∷ xs) (y ∷ ys) up down to back =
      let first : y ≡ x = heads x y xs ys up.0 down.0 (to y (inl refl)) (back x (inl refl)) in
      let down_x : IsAscending Before (x ∷ ys) = subst (λ w. IsAscending Before (w ∷ ys)) first down in
      let to_x : ((z : X) → Has (x ∷ ys) z → Has (x ∷ xs) z) = subst (λ w. (z : X) → Has (w ∷ ys) z → Has (x ∷ xs) z) first to in
      let back_x : ((z : X) → Has (x ∷ xs) z → Has (x ∷ ys) z) = subst (λ w. (z : X) → Has (x ∷ xs) z → Has (w ∷ ys) z) first back in
      ap (λ w. w ∷ ys) first
      ∙ ap (λ l. x ∷ l) (same_lists xs ys up.1 down_x.1 (tail_has x xs ys down_x.0 to_x) (tail_has x ys xs up.0 back_x))

  pub one_order : (xs ys : List X) → IsAscending Before xs → IsAscending Before ys → IsPermutation xs ys → ys ≡ xs
  one_order xs ys up down same = same_lists xs ys up down
      (λ z h. all_has (Has xs) ys z (all-permutation (Has xs) xs ys same (has_all xs xs (λ w k. k))) h)
      (λ z h. all_has (Has ys) xs z (all-permutation (Has ys) ys xs (IsPermutation-sym xs ys same) (has_all ys ys (λ w k. k))) h)

reversed_all : {X : Type 0} (P : X → Type 0) (xs : List X) → AllByRecursion P xs → AllByRecursion P (reverse xs)
reversed_all P [] all = tt
reversed_all P (x ∷ xs) all =
    subst (AllByRecursion P) (sym (reverse-append (x ∷ []) xs)) (all-append P (reverse xs) (x ∷ []) (reversed_all P xs all.1) (all.0, tt))

-- a list that rises falls the other way round
pub falling : {X : Type 0} (R : X → X → Type 0) (xs : List X) → IsAscending R xs → IsAscending (λ a b. R b a) (reverse xs)
falling R [] up = tt
falling R (x ∷ xs) up =
    subst (IsAscending (λ a b. R b a)) (sym (reverse-append (x ∷ []) xs))
    (ascending-append (λ a b. R b a) (reverse xs) (x ∷ []) (falling R xs up.1) (tt, tt)
    (all_weaker (R x) (λ y. AllByRecursion (λ z. R z y) (x ∷ [])) (λ y r. (r, tt)) (reverse xs) (reversed_all (R x) xs up.0)))

-- ---- pairs

abbrev pub IsBefore : PairContent → PairContent → Type 0
IsBefore a b = key_order a.key b.key ≡ Less

abbrev pub Rises : Pairs → Type 0
Rises = IsAscending IsBefore

pub never_both : (a b : PairContent) → IsBefore a b → IsBefore b a → ⊥
never_both a b first second = one_way a.key b.key first second

pub same_pairs : (ps qs : Pairs) → Rises ps → Rises qs → IsPermutation ps qs → qs ≡ ps
same_pairs = one_order IsBefore never_both

-- ---- a pair that is put

-- the pairs above a key aren't its pair
pub kept_above : (key : List ℕ) (ps : Pairs) → AllByRecursion (λ p. key_order key p.key ≡ Less) ps → without_key key ps ≡ ps
kept_above key ps above = filter_all (λ p. not (is_same_key p.key key)) ps
    (all_weaker (λ p. key_order key p.key ≡ Less) (λ p. not (is_same_key p.key key) ≡ true)
    (λ p less. not_from_false (is_same_key p.key key) (other_way key p.key (less_differs key p.key less))) ps above)

above_more : (j k : List ℕ) (ps : Pairs) → key_order j k ≡ Less → AllByRecursion (λ p. key_order k p.key ≡ Less) ps → AllByRecursion (λ p. key_order j p.key ≡ Less) ps
above_more j k ps less above = all_weaker (λ p. key_order k p.key ≡ Less) (λ p. key_order j p.key ≡ Less) (λ p more. less_less j k p.key less more) ps above

kept_first : (key : List ℕ) (q : PairContent) (qs : Pairs) → is_same_key q.key key ≡ false → without_key key (q ∷ qs) ≡ q ∷ without_key key qs
kept_first key q qs other = ap (λ b. cond (not b) (q ∷ without_key key qs) (without_key key qs)) other

gone_first : (key : List ℕ) (q : PairContent) (qs : Pairs) → is_same_key q.key key ≡ true → without_key key (q ∷ qs) ≡ without_key key qs
gone_first key q qs same = ap (λ b. cond (not b) (q ∷ without_key key qs) (without_key key qs)) same

pub exchanged : (p q : PairContent) (ps : Pairs) → IsPermutation (p ∷ q ∷ ps) (q ∷ p ∷ ps)
exchanged p q ps = IsPermutation-middle (p ∷ []) q ps

put_by : (o : Ordering) (p q : PairContent) (qs : Pairs) → key_order p.key q.key ≡ o → Rises (q ∷ qs) → IsPermutation (p ∷ without_key p.key qs) (put_pair p qs)
    → IsPermutation (p ∷ without_key p.key (q ∷ qs)) (place_by o p q qs (put_pair p qs))
put_by Less p q qs order up more =
    subst (λ l. IsPermutation (p ∷ l) (p ∷ q ∷ qs)) (sym (kept_above p.key (q ∷ qs) (order, above_more p.key q.key qs order up.0)))
    (IsPermutation-refl (p ∷ q ∷ qs))
put_by Equal p q qs order up more =
    let keys = equal_is p.key q.key order in
    let same : is_same_key q.key p.key ≡ true = same_by q.key p.key Equal (turned p.key q.key Equal order) in
    let above : AllByRecursion (λ r. key_order p.key r.key ≡ Less) qs = subst (λ k. AllByRecursion (λ r. key_order k r.key ≡ Less) qs) (sym keys) up.0 in
    subst (λ l. IsPermutation (p ∷ l) (p ∷ qs)) (sym (gone_first p.key q qs same ∙ kept_above p.key qs above)) (IsPermutation-refl (p ∷ qs))
put_by Greater p q qs order up more =
    let other : is_same_key q.key p.key ≡ false = same_by q.key p.key Less (turned p.key q.key Greater order) in
    subst (λ l. IsPermutation (p ∷ l) (q ∷ put_pair p qs)) (sym (kept_first p.key q qs other))
    (IsPermutation-trans _ _ _ (exchanged p q (without_key p.key qs)) (IsPermutation-cons q _ _ more))

pub put_moves : (p : PairContent) (ps : Pairs) → Rises ps → IsPermutation (p ∷ without_key p.key ps) (put_pair p ps)
put_moves p [] up = IsPermutation-refl (p ∷ [])
put_moves p (q ∷ qs) up = put_by (key_order p.key q.key) p q qs refl up (put_moves p qs up.1)

all_without : (P : PairContent → Type 0) (key : List ℕ) (ps : Pairs) → AllByRecursion P ps → AllByRecursion P (without_key key ps)
all_without P key ps all = all-filter P (λ p. not (is_same_key p.key key)) ps all

rises_by : (o : Ordering) (p q : PairContent) (qs : Pairs) → key_order p.key q.key ≡ o → Rises (q ∷ qs) → Rises (put_pair p qs)
    → Rises (place_by o p q qs (put_pair p qs))
rises_by Less p q qs order up more = ((order, above_more p.key q.key qs order up.0), up)
rises_by Equal p q qs order up more =
    let keys = equal_is p.key q.key order in
    (subst (λ k. AllByRecursion (λ r. key_order k r.key ≡ Less) qs) (sym keys) up.0, up.1)
rises_by Greater p q qs order up more =
    let low : key_order q.key p.key ≡ Less = turned p.key q.key Greater order in
    (all-permutation (IsBefore q) (p ∷ without_key p.key qs) (put_pair p qs) (put_moves p qs up.1) (low, all_without (IsBefore q) p.key qs up.0), more)

pub put_rises : (p : PairContent) (ps : Pairs) → Rises ps → Rises (put_pair p ps)
put_rises p [] up = (tt, tt)
put_rises p (q ∷ qs) up = rises_by (key_order p.key q.key) p q qs refl up (put_rises p qs up.1)
