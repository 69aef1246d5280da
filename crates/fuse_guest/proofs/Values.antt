-- The values of keys, after each change.
use Rattle.std.proofs.Common.{◌≡◌, ◌≢◌, ℕ, Bool, true, false, List, [], ◌∷◌, Option, Some, None, refl, sym, ap, ◌∙◌, true≢false}
use Rattle.std.specs.Prelude.{cond, filter, if◌then◌else◌, not}
use Rattle.std.proofs.Common.{Ordering, Less, Equal, Greater}
use Rattle.std.proofs.lemmas.Bool.{not_from_true, not_from_false}
use Rattle.guest_frames.specs.Frames.{PairContent}
use Rattle.fuse_guest.specs.Pairs.{Pairs, key_order, is_same_key, is_in_range, value_for, place_by, put_pair, without_key, without_range, pairs_within}
use Rattle.fuse_guest.proofs.Keys.{same_itself, same_is, not_same, same_by, equal_is, turned}

-- ---- at the first pair

pub at_first : (p : PairContent) (ps : Pairs) → value_for (p ∷ ps) p.key ≡ Some p.value
at_first p ps = ap (λ (b : Bool). if b then Some p.value else value_for ps p.key) (same_itself p.key)

pub past_first : (p : PairContent) (ps : Pairs) (key : List ℕ) → is_same_key p.key key ≡ false → value_for (p ∷ ps) key ≡ value_for ps key
past_first p ps key other = ap (λ (b : Bool). if b then Some p.value else value_for ps key) other

more : (p : PairContent) (ps qs : Pairs) (key : List ℕ) → value_for ps key ≡ value_for qs key → value_for (p ∷ ps) key ≡ value_for (p ∷ qs) key
more p ps qs key same = ap (λ (v : Option (List ℕ)). if is_same_key p.key key then Some p.value else v) same

-- ---- PUT

one_by : (o : Ordering) (p q : PairContent) (qs : Pairs) → key_order p.key q.key ≡ o → value_for (put_pair p qs) p.key ≡ Some p.value
    → value_for (place_by o p q qs (put_pair p qs)) p.key ≡ Some p.value
one_by Less p q qs order later = at_first p (q ∷ qs)
one_by Equal p q qs order later = at_first p qs
one_by Greater p q qs order later = past_first q (put_pair p qs) p.key (same_by q.key p.key Less (turned p.key q.key Greater order)) ∙ later

pub put_one : (ps : Pairs) (p : PairContent) → value_for (put_pair p ps) p.key ≡ Some p.value
put_one [] p = at_first p []
put_one (q ∷ qs) p = one_by (key_order p.key q.key) p q qs refl (put_one qs p)

others_by : (o : Ordering) (p q : PairContent) (qs : Pairs) (key : List ℕ) → p.key ≢ key → key_order p.key q.key ≡ o
    → value_for (put_pair p qs) key ≡ value_for qs key → value_for (place_by o p q qs (put_pair p qs)) key ≡ value_for (q ∷ qs) key
others_by Less p q qs key other order later = past_first p (q ∷ qs) key (not_same p.key key other)
others_by Equal p q qs key other order later =
    past_first p qs key (not_same p.key key other)
    ∙ sym (past_first q qs key (not_same q.key key (λ same. other (equal_is p.key q.key order ∙ same))))
others_by Greater p q qs key other order later = more q (put_pair p qs) qs key later

pub put_others : (ps : Pairs) (p : PairContent) (key : List ℕ) → p.key ≢ key → value_for (put_pair p ps) key ≡ value_for ps key
put_others [] p key other = past_first p [] key (not_same p.key key other)
put_others (q ∷ qs) p key other = others_by (key_order p.key q.key) p q qs key other refl (put_others qs p key other)

-- ---- pairs whose keys pass a test

-- a pair whose key is asked for passes as that key does
pass_by : (b c : Bool) (p : PairContent) (kept ps : Pairs) (key : List ℕ) → is_same_key p.key key ≡ c → (c ≡ true → b ≡ true)
    → value_for kept key ≡ value_for ps key → value_for (cond b (p ∷ kept) kept) key ≡ (if c then Some p.value else value_for ps key)
pass_by true c p kept ps key same passes later =
    ap (λ (x : Bool). if x then Some p.value else value_for kept key) same ∙ ap (λ (v : Option (List ℕ)). if c then Some p.value else v) later
pass_by false true p kept ps key same passes later = absurd (true≢false (sym (passes refl)))
pass_by false false p kept ps key same passes later = later

pub passing : (test : List ℕ → Bool) (ps : Pairs) (key : List ℕ) → test key ≡ true → value_for (filter (λ p. test p.key) ps) key ≡ value_for ps key
passing test [] key yea = refl
passing test (p ∷ ps) key yea =
    pass_by (test p.key) (is_same_key p.key key) p (filter (λ q. test q.key) ps) ps key refl
    (λ same. ap test (same_is p.key key same) ∙ yea) (passing test ps key yea)

fail_by : (b c : Bool) (p : PairContent) (kept : Pairs) (key : List ℕ) → is_same_key p.key key ≡ c → (c ≡ true → b ≡ false)
    → value_for kept key ≡ None → value_for (cond b (p ∷ kept) kept) key ≡ None
fail_by false c p kept key same fails later = later
fail_by true true p kept key same fails later = absurd (true≢false (fails refl))
fail_by true false p kept key same fails later = past_first p kept key same ∙ later

pub failing : (test : List ℕ → Bool) (ps : Pairs) (key : List ℕ) → test key ≡ false → value_for (filter (λ p. test p.key) ps) key ≡ None
failing test [] key nay = refl
failing test (p ∷ ps) key nay =
    fail_by (test p.key) (is_same_key p.key key) p (filter (λ q. test q.key) ps) key refl
    (λ same. ap test (same_is p.key key same) ∙ nay) (failing test ps key nay)

pub within_by : (b : Bool) (ps : Pairs) (from to key : List ℕ) → is_in_range from to key ≡ b
    → value_for (pairs_within from to ps) key ≡ (if b then value_for ps key else None)
within_by true ps from to key yea = passing (λ k. is_in_range from to k) ps key yea
within_by false ps from to key nay = failing (λ k. is_in_range from to k) ps key nay

-- ---- DELETE and CLEAR

pub delete_one : (ps : Pairs) (key : List ℕ) → value_for (without_key key ps) key ≡ None
delete_one ps key = failing (λ k. not (is_same_key k key)) ps key (not_from_true (is_same_key key key) (same_itself key))

pub delete_others : (ps : Pairs) (gone key : List ℕ) → gone ≢ key → value_for (without_key gone ps) key ≡ value_for ps key
delete_others ps gone key other =
    passing (λ k. not (is_same_key k gone)) ps key (not_from_false (is_same_key key gone) (not_same key gone (λ same. other (sym same))))

pub clear_these : (ps : Pairs) (from to key : List ℕ) → is_in_range from to key ≡ true → value_for (without_range from to ps) key ≡ None
clear_these ps from to key yea = failing (λ k. not (is_in_range from to k)) ps key (not_from_true (is_in_range from to key) yea)

pub clear_others : (ps : Pairs) (from to key : List ℕ) → is_in_range from to key ≡ false → value_for (without_range from to ps) key ≡ value_for ps key
clear_others ps from to key nay' = passing (λ k. not (is_in_range from to k)) ps key (not_from_false (is_in_range from to key) nay')
