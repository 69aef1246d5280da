-- Pairs stay in order, and those with the same values are the same.
use Rattle.std.proofs.Common.{◌≡◌, ℕ, Bool, true, false, List, [], ◌∷◌, Option, Some, None, refl, sym, ap, ◌∙◌, subst}
use Rattle.std.specs.Prelude.{cond, filter}
use Rattle.std.specs.Option.{unwrap_or}
use Rattle.std.specs.List.{AllByRecursion}
use Rattle.std.proofs.Common.{Ordering, Less, Equal, Greater}
use Rattle.guest_frames.specs.Frames.{PairContent, ChangeContent, put, delete, clear, IsPair, IsChange}
use Rattle.fuse_guest.specs.Pairs.{Pairs, ArePairs, IsBelowAll, key_order, is_same_key, value_for, place_by, put_pair, pairs_after, changed_pairs}
use Rattle.fuse_guest.proofs.Keys.{same_is, same_by, equal_is, turned, less_less}
use Rattle.fuse_guest.proofs.Values.{at_first, past_first}

-- ---- below all

below_more : (j k : List ℕ) (ps : Pairs) → key_order j k ≡ Less → IsBelowAll k ps → IsBelowAll j ps
below_more j k [] less below = tt
below_more j k (p ∷ ps) less below = (less_less j k p.key less below.0, below_more j k ps less below.1)

below_put_by : (o : Ordering) (k : List ℕ) (p q : PairContent) (qs later : Pairs) → key_order k p.key ≡ Less → IsBelowAll k (q ∷ qs)
    → IsBelowAll k later → IsBelowAll k (place_by o p q qs later)
below_put_by Less k p q qs later less below more = (less, below)
below_put_by Equal k p q qs later less below more = (less, below.1)
below_put_by Greater k p q qs later less below more = (below.0, more)

below_put : (k : List ℕ) (p : PairContent) (ps : Pairs) → key_order k p.key ≡ Less → IsBelowAll k ps → IsBelowAll k (put_pair p ps)
below_put k p [] less below = (less, tt)
below_put k p (q ∷ qs) less below = below_put_by (key_order p.key q.key) k p q qs (put_pair p qs) less below (below_put k p qs less below.1)

below_cond : (b : Bool) (k : List ℕ) (p : PairContent) (ps : Pairs) → key_order k p.key ≡ Less → IsBelowAll k ps → IsBelowAll k (cond b (p ∷ ps) ps)
below_cond true k p ps less below = (less, below)
below_cond false k p ps less below = below

below_filter : (test : PairContent → Bool) (k : List ℕ) (ps : Pairs) → IsBelowAll k ps → IsBelowAll k (filter test ps)
below_filter test k [] below = tt
below_filter test k (p ∷ ps) below = below_cond (test p) k p (filter test ps) below.0 (below_filter test k ps below.1)

-- ---- changes

put_are_by : (o : Ordering) (p q : PairContent) (qs : Pairs) → key_order p.key q.key ≡ o → IsPair p → ArePairs (q ∷ qs)
    → ArePairs (put_pair p qs) → ArePairs (place_by o p q qs (put_pair p qs))
unfolding ArePairs
put_are_by Less p q qs order right are more = (right, (order, below_more p.key q.key qs order are.1), are)
put_are_by Equal p q qs order right are more = (right, subst (λ k. IsBelowAll k qs) (sym (equal_is p.key q.key order)) are.1, are.2)
put_are_by Greater p q qs order right are more = (are.0, below_put q.key p qs (turned p.key q.key Greater order) are.1, more)

rest_are : (p : PairContent) (ps : Pairs) → ArePairs (p ∷ ps) → ArePairs ps
unfolding ArePairs
rest_are p ps are = are.2

first_below : (p : PairContent) (ps : Pairs) → ArePairs (p ∷ ps) → IsBelowAll p.key ps
unfolding ArePairs
first_below p ps are = are.1

pub no_pairs : ArePairs []
unfolding ArePairs
no_pairs = tt

one_pair : (p : PairContent) → IsPair p → ArePairs (p ∷ [])
unfolding ArePairs
one_pair p right = (right, tt, tt)

put_are : (p : PairContent) (ps : Pairs) → IsPair p → ArePairs ps → ArePairs (put_pair p ps)
put_are p [] right are = one_pair p right
put_are p (q ∷ qs) right are = put_are_by (key_order p.key q.key) p q qs refl right are (put_are p qs right (rest_are q qs are))

cond_are : (b : Bool) (p : PairContent) (ps kept : Pairs) → ArePairs (p ∷ ps) → IsBelowAll p.key kept → ArePairs kept → ArePairs (cond b (p ∷ kept) kept)
unfolding ArePairs
cond_are true p ps kept are below more = (are.0, below, more)
cond_are false p ps kept are below more = more

pub filter_are : (test : PairContent → Bool) (ps : Pairs) → ArePairs ps → ArePairs (filter test ps)
filter_are test [] are = are
filter_are test (p ∷ ps) are =
    cond_are (test p) p ps (filter test ps) are (below_filter test p.key ps (first_below p ps are)) (filter_are test ps (rest_are p ps are))

one_more : (ps : Pairs) (c : ChangeContent) → IsChange c → ArePairs ps → ArePairs (pairs_after ps c)
one_more ps (put key value) right are = put_are (record { key = key; value = value }) ps right are
one_more ps (delete key) right are = filter_are _ ps are
one_more ps (clear from to) right are = filter_are _ ps are

pub changed_are : (ps : Pairs) (changes : List ChangeContent) → ArePairs ps → AllByRecursion IsChange changes → ArePairs (changed_pairs changes ps)
changed_are ps [] are right = are
changed_are ps (c ∷ cs) are right = changed_are (pairs_after ps c) cs (one_more ps c right.0 are) right.1

-- each pair is within the limits
pub each_pair : (ps : Pairs) → ArePairs ps → AllByRecursion IsPair ps
unfolding ArePairs
each_pair [] are = tt
each_pair (p ∷ ps) are = (are.0, each_pair ps are.2)

-- ---- pairs with the same values

absent : (k : List ℕ) (ps : Pairs) → IsBelowAll k ps → value_for ps k ≡ None
absent k [] below = refl
absent k (p ∷ ps) below = past_first p ps k (same_by p.key k Greater (turned k p.key Less below.0)) ∙ absent k ps below.1

-- a key below the first one has no value
too_low : (k : List ℕ) (p : PairContent) (ps : Pairs) → ArePairs (p ∷ ps) → key_order k p.key ≡ Less → value_for (p ∷ ps) k ≡ None
too_low k p ps are less = absent k (p ∷ ps) (less, below_more k p.key ps less (first_below p ps are))

none_or_some : (v : List ℕ) → Some v ≡ None → ⊥
none_or_some v is = absurd cc

abbrev HaveSame : Pairs → Pairs → Type 0
HaveSame ps qs = (key : List ℕ) → value_for ps key ≡ value_for qs key

same_values : (v w : List ℕ) → Some v ≡ Some w → v ≡ w
same_values v w is = ap (λ (o : Option (List ℕ)). unwrap_or o []) is

-- the value of any key but the first one stands after it; of the first one there is none there
rest_by : (b : Bool) (p q : PairContent) (ps qs : Pairs) (key : List ℕ) → is_same_key p.key key ≡ b → p.key ≡ q.key → ArePairs (p ∷ ps) → ArePairs (q ∷ qs)
    → HaveSame (p ∷ ps) (q ∷ qs) → value_for ps key ≡ value_for qs key
rest_by true p q ps qs key is keys are are' have =
    let k = same_is p.key key is in
    subst (λ x. value_for ps x ≡ value_for qs x) k
    (absent p.key ps (first_below p ps are) ∙ sym (subst (λ x. value_for qs x ≡ None) (sym keys) (absent q.key qs (first_below q qs are'))))
rest_by false p q ps qs key is keys are are' have =
    sym (past_first p ps key is) ∙ have key ∙ past_first q qs key (subst (λ x. is_same_key x key ≡ false) keys is)

same_pair : (p q : PairContent) → p.key ≡ q.key → p.value ≡ q.value → p ≡ q
same_pair p q keys values = λ i. record { key = keys i; value = values i }

same_by_order : (o : Ordering) (p q : PairContent) (ps qs : Pairs) → key_order p.key q.key ≡ o → ArePairs (p ∷ ps) → ArePairs (q ∷ qs)
    → HaveSame (p ∷ ps) (q ∷ qs) → ((p.key ≡ q.key) → ps ≡ qs) → p ∷ ps ≡ q ∷ qs
same_by_order Less p q ps qs order are are' have rest =
    absurd (none_or_some p.value (sym (at_first p ps) ∙ have p.key ∙ too_low p.key q qs are' order))
same_by_order Greater p q ps qs order are are' have rest =
    absurd (none_or_some q.value (sym (at_first q qs) ∙ sym (have q.key) ∙ too_low q.key p ps are (turned p.key q.key Greater order)))
same_by_order Equal p q ps qs order are are' have rest =
    let keys = equal_is p.key q.key order in
    let values =
    same_values p.value q.value (sym (at_first p ps) ∙ have p.key ∙ subst (λ k. value_for (q ∷ qs) k ≡ Some q.value) (sym keys) (at_first q qs)) in
    λ i. same_pair p q keys values i ∷ rest keys i

pub same_pairs : (ps qs : Pairs) → ArePairs ps → ArePairs qs → HaveSame ps qs → ps ≡ qs
same_pairs [] [] are are' have = refl
same_pairs [] (q ∷ qs) are are' have = absurd (none_or_some q.value (sym (at_first q qs) ∙ sym (have q.key)))
same_pairs (p ∷ ps) [] are are' have = absurd (none_or_some p.value (sym (at_first p ps) ∙ have p.key))
same_pairs (p ∷ ps) (q ∷ qs) are are' have =
    same_by_order (key_order p.key q.key) p q ps qs refl are are' have
    (λ keys. same_pairs ps qs (rest_are p ps are) (rest_are q qs are')
    (λ key. rest_by (is_same_key p.key key) p q ps qs key refl keys are are' have))
