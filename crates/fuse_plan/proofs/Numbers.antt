-- Rising numbers of blocks: how many there are, and which, when some become written or are written no more.
use Rattle.std.proofs.Common.{◌≡◌, ◌≢◌, ◌<◌, ◌≤◌, ◌+◌, ◌-◌, ◌==◌, ◌&&◌, ◌||◌, ℕ, zero, suc, Bool, true, false, cond, eqb, List, [], ◌∷◌, ◌++◌, length, refl, ap, inl, inr, arith}
use Rattle.std.specs.Prelude.{filter, nat_lt, nat_le}
use Rattle.std.specs.List.{AllByRecursion, list_any}
use Rattle.std.proofs.lemmas.Bool.{cases_lt, eq-eqb, eqb-true, eqb-false, lt-ltb, le-ltb, ltb-true, le-leb, lt-leb, leb-true}
use Rattle.std.proofs.lemmas.List.{length-append}
use Rattle.fuse_rows.specs.Blocks.{numbers_from, with_range, count_between}
use Rattle.fuse_tree.specs.State.{Apart}
use Rattle.fuse_plan.proofs.Lists.{all_more, all_both, all_kept, apart_filtered, or_false}

abbrev pub Rise : List ℕ → Type 0
Rise = Apart (λ b later. b < later)

abbrev pub Between : ℕ → ℕ → List ℕ → Type 0
Between from to = AllByRecursion (λ b. (from ≤ b) × (b < to))

abbrev pub is_listed : ℕ → List ℕ → Bool
is_listed b blocks = list_any (λ x. x == b) blocks

-- ---- numbers in a row

pub numbers_length : (first count : ℕ) → length (numbers_from first count) ≡ count
numbers_length first zero = refl
numbers_length first (suc n) = ap suc (numbers_length (first + 1) n)

pub numbers_between : (first count : ℕ) → Between first (first + count) (numbers_from first count)
numbers_between first zero = tt
numbers_between first (suc n) = (
  (omega arith, omega arith),
  all_more (λ b. (first + 1 ≤ b) × (b < first + 1 + n)) (λ b. (first ≤ b) × (b < first + suc n)) (numbers_from (first + 1) n)
      (λ b p. let low : first + 1 ≤ b = p.0 in let high : b < first + 1 + n = p.1 in (omega arith, omega arith))
      (numbers_between (first + 1) n),
)

pub numbers_rise : (first count : ℕ) → Rise (numbers_from first count)
numbers_rise first zero = tt
numbers_rise first (suc n) = (
  all_more (λ b. (first + 1 ≤ b) × (b < first + 1 + n)) (λ b. first < b) (numbers_from (first + 1) n)
      (λ b p. let low : first + 1 ≤ b = p.0 in omega arith) (numbers_between (first + 1) n),
  numbers_rise (first + 1) n,
)

-- each number of the range is among them
pub numbers_have : (first count b : ℕ) → first ≤ b → b < first + count → is_listed b (numbers_from first count) ≡ true
numbers_have first zero b low high = absurd (omega (arith, low, high))
numbers_have first (suc n) b low high =
    step (eqb first b) refl (λ other. numbers_have (first + 1) n b (let apart : first ≢ b = other in omega arith) (omega arith))
  where
    step : (t : Bool) → eqb first b ≡ t → (first ≢ b → is_listed b (numbers_from (first + 1) n) ≡ true)
        → (t || is_listed b (numbers_from (first + 1) n)) ≡ true
    step true is rest = refl
    step false is rest = rest (eqb-false first b is)

-- ---- how many there are

-- of rising numbers no more than the range has
pub few_between : (from to : ℕ) (bs : List ℕ) → Rise bs → Between from to bs → length bs ≤ to - from
few_between from to [] rise all = omega arith
few_between from to (b ∷ bs) rise all =
    let low : from ≤ b = all.0.0 in
    let high : b < to = all.0.1 in
    let rest : Between (b + 1) to bs =
    all_both (λ c. b < c) (λ c. (from ≤ c) × (c < to)) (λ c. (b + 1 ≤ c) × (c < to)) bs
    (λ c up p. let up : b < c = up in (omega arith, p.1)) rise.0 all.1 in
    omega (arith, few_between (b + 1) to bs rise.1 rest)

-- those below a range, in it and above it are all
pub parts : (from to : ℕ) (bs : List ℕ) → from ≤ to
    → length (filter (λ b. nat_lt b from) bs) + count_between from to bs + length (filter (λ b. nat_le to b) bs) ≡ length bs
parts from to [] order = refl
parts from to (b ∷ bs) order =
    elim (cases_lt b from) [
      | inl under ↦ rw (lt-ltb b from under, lt-leb from b under, lt-leb to b (omega (arith, under))) (omega (arith, parts from to bs order))
      | inr over ↦ elim (cases_lt b to) [
        | inl within ↦ rw (le-ltb b from over, le-leb from b over, lt-ltb b to within, lt-leb to b within) (omega (arith, parts from to bs order))
        | inr above ↦ rw (le-ltb b from over, le-leb from b over, le-ltb b to above, le-leb to b above) (omega (arith, parts from to bs order))
      ]
    ]

between_all : (from to : ℕ) (bs : List ℕ) → Between from to (filter (λ b. nat_le from b && nat_lt b to) bs)
between_all from to [] = tt
between_all from to (b ∷ bs) = step (nat_le from b) (nat_lt b to) refl refl (between_all from to bs)
  where
    step : (p q : Bool) → nat_le from b ≡ p → nat_lt b to ≡ q → Between from to (filter (λ c. nat_le from c && nat_lt c to) bs)
        → Between from to
        (cond (p && q) (b ∷ filter (λ c. nat_le from c && nat_lt c to) bs) (filter (λ c. nat_le from c && nat_lt c to) bs))
    step true true low high rest = ((leb-true from b low, ltb-true b to high), rest)
    step true false low high rest = rest
    step false q low high rest = rest

-- rising numbers have no more of a range than it has
pub few_counted : (from to : ℕ) (bs : List ℕ) → Rise bs → count_between from to bs ≤ to - from
few_counted from to bs rise =
    few_between from to (filter (λ b. nat_le from b && nat_lt b to) bs) (apart_filtered (λ b later. b < later) (λ b. nat_le from b && nat_lt b to) bs rise)
    (between_all from to bs)

-- ---- a range becomes written

pub with_length : (from to : ℕ) (bs : List ℕ) → from ≤ to → Rise bs
    → length (with_range from to bs) ≡ length bs + (to - from - count_between from to bs)
with_length from to bs order rise =
    let low = filter (λ b. nat_lt b from) bs in
    let high = filter (λ b. nat_le to b) bs in
    omega (
      arith,
      length-append (low ++ numbers_from from (to - from)) high,
      length-append low (numbers_from from (to - from)),
      numbers_length from (to - from),
      parts from to bs order,
      few_counted from to bs rise,
    )

apart_joined : (xs ys : List ℕ) → Rise xs → Rise ys → AllByRecursion (λ x. AllByRecursion (λ y. x < y) ys) xs → Rise (xs ++ ys)
apart_joined [] ys one two all = two
apart_joined (x ∷ xs) ys one two all = (joined xs one.0, apart_joined xs ys one.1 two all.1)
  where
    joined : (zs : List ℕ) → AllByRecursion (λ z. x < z) zs → AllByRecursion (λ z. x < z) (zs ++ ys)
    joined [] these = all.0
    joined (z ∷ zs) these = (these.0, joined zs these.1)

all_joined : (P : ℕ → Type 0) (xs ys : List ℕ) → AllByRecursion P xs → AllByRecursion P ys → AllByRecursion P (xs ++ ys)
all_joined P [] ys one two = two
all_joined P (x ∷ xs) ys one two = (one.0, all_joined P xs ys one.1 two)

under_all : (from : ℕ) (bs : List ℕ) → AllByRecursion (λ b. b < from) (filter (λ b. nat_lt b from) bs)
under_all from [] = tt
under_all from (b ∷ bs) = step (nat_lt b from) refl (under_all from bs)
  where
    step : (p : Bool) → nat_lt b from ≡ p → AllByRecursion (λ c. c < from) (filter (λ c. nat_lt c from) bs)
        → AllByRecursion (λ c. c < from) (cond p (b ∷ filter (λ c. nat_lt c from) bs) (filter (λ c. nat_lt c from) bs))
    step true is rest = (ltb-true b from is, rest)
    step false is rest = rest

over_all : (to : ℕ) (bs : List ℕ) → AllByRecursion (λ b. to ≤ b) (filter (λ b. nat_le to b) bs)
over_all to [] = tt
over_all to (b ∷ bs) = step (nat_le to b) refl (over_all to bs)
  where
    step : (p : Bool) → nat_le to b ≡ p → AllByRecursion (λ c. to ≤ c) (filter (λ c. nat_le to c) bs)
        → AllByRecursion (λ c. to ≤ c) (cond p (b ∷ filter (λ c. nat_le to c) bs) (filter (λ c. nat_le to c) bs))
    step true is rest = (leb-true to b is, rest)
    step false is rest = rest

-- where each of a list is below each of another
apart_by : (at : ℕ) (xs ys : List ℕ) → AllByRecursion (λ x. x < at) xs → AllByRecursion (λ y. at ≤ y) ys
    → AllByRecursion (λ x. AllByRecursion (λ y. x < y) ys) xs
apart_by at xs ys low high =
    all_more (λ x. x < at) (λ x. AllByRecursion (λ y. x < y) ys) xs
    (λ x less. all_more (λ y. at ≤ y) (λ y. x < y) ys (λ y more. let less : x < at = less in let more : at ≤ y = more in omega arith) high) low

range_all : (from to : ℕ) → from ≤ to → Between from to (numbers_from from (to - from))
range_all from to order =
    all_more (λ b. (from ≤ b) × (b < from + (to - from))) (λ b. (from ≤ b) × (b < to)) (numbers_from from (to - from))
    (λ b p. let high : b < from + (to - from) = p.1 in (p.0, omega arith)) (numbers_between from (to - from))

pub with_rise : (from to : ℕ) (bs : List ℕ) → from ≤ to → Rise bs → Rise (with_range from to bs)
with_rise from to bs order rise =
    let low = filter (λ b. nat_lt b from) bs in
    let range = numbers_from from (to - from) in
    let high = filter (λ b. nat_le to b) bs in
    let ranged = range_all from to order in
    apart_joined (low ++ range) high
    (apart_joined low range (apart_filtered (λ b later. b < later) (λ b. nat_lt b from) bs rise) (numbers_rise from (to - from))
    (apart_by from low range (under_all from bs) (all_more (λ b. (from ≤ b) × (b < to)) (λ b. from ≤ b) range (λ b p. p.0) ranged)))
    (apart_filtered (λ b later. b < later) (λ b. nat_le to b) bs rise)
    (apart_by to (low ++ range) high
    (all_joined (λ b. b < to) low range (all_more (λ b. b < from) (λ b. b < to) low (λ b less. let less : b < from = less in omega arith) (under_all from bs))
    (all_more (λ b. (from ≤ b) × (b < to)) (λ b. b < to) range (λ b p. p.1) ranged))
    (over_all to bs))

-- what is below an end stays below it
pub with_below : (from to end : ℕ) (bs : List ℕ) → from ≤ to → to ≤ end → AllByRecursion (λ b. b < end) bs → AllByRecursion (λ b. b < end) (with_range from to bs)
with_below from to end bs order low all =
    all_joined (λ b. b < end) (filter (λ b. nat_lt b from) bs ++ numbers_from from (to - from)) (filter (λ b. nat_le to b) bs)
    (all_joined (λ b. b < end) (filter (λ b. nat_lt b from) bs) (numbers_from from (to - from))
    (all_kept (λ b. b < end) (λ b. nat_lt b from) bs all)
    (all_more (λ b. (from ≤ b) × (b < to)) (λ b. b < end) (numbers_from from (to - from)) (λ b p. let less : b < to = p.1 in omega arith) (range_all from to order)))
    (all_kept (λ b. b < end) (λ b. nat_le to b) bs all)

any_joined : (b : ℕ) (xs ys : List ℕ) → is_listed b (xs ++ ys) ≡ false → (is_listed b xs ≡ false) × (is_listed b ys ≡ false)
any_joined b [] ys none = (refl, none)
any_joined b (x ∷ xs) ys none =
    let h = or_false (eqb x b) (is_listed b (xs ++ ys)) none in
    let rest = any_joined b xs ys h.1 in
    (rw (h.0) rest.0, rest.1)

-- what a test lets through of the number is gone with the list
any_dropped : (test : ℕ → Bool) (b : ℕ) (bs : List ℕ) → test b ≡ true → is_listed b (filter test bs) ≡ false → is_listed b bs ≡ false
any_dropped test b [] passes none = refl
any_dropped test b (x ∷ xs) passes none = step (eqb x b) refl (any_dropped test b xs passes (kept (test x) refl none))
  where
    kept : (p : Bool) → test x ≡ p → is_listed b (cond p (x ∷ filter test xs) (filter test xs)) ≡ false → is_listed b (filter test xs) ≡ false
    kept true is gone = (or_false (eqb x b) (is_listed b (filter test xs)) gone).1
    kept false is gone = gone

    not_here : (p : Bool) → test x ≡ p → x ≡ b → is_listed b (cond p (x ∷ filter test xs) (filter test xs)) ≡ false → ⊥
    not_here true is here gone = let same = eq-eqb x b here in let first = (or_false (eqb x b) (is_listed b (filter test xs)) gone).0 in absurd cc
    not_here false is here gone = let same : test x ≡ test b = ap test here in absurd cc

    step : (t : Bool) → eqb x b ≡ t → is_listed b xs ≡ false → (t || is_listed b xs) ≡ false
    step true is rest = absurd (not_here (test x) refl (eqb-true x b is) none)
    step false is rest = rest

-- a number that isn't listed then lies outside the range, and wasn't listed before
pub record Unlisted (from to b : ℕ) (bs : List ℕ) : Type 0 where
  pub before : is_listed b bs ≡ false
  pub outside : from ≤ b → to ≤ b

pub with_unlisted : (from to b : ℕ) (bs : List ℕ) → from ≤ to → is_listed b (with_range from to bs) ≡ false → Unlisted from to b bs
with_unlisted from to b bs order none =
    let both = any_joined b (filter (λ x. nat_lt x from) bs ++ numbers_from from (to - from)) (filter (λ x. nat_le to x) bs) none in
    let first = any_joined b (filter (λ x. nat_lt x from) bs) (numbers_from from (to - from)) both.0 in
    elim (cases_lt b from) [
      | inl under ↦ record {
        before = any_dropped (λ x. nat_lt x from) b bs (lt-ltb b from under) first.0;
        outside = λ over. absurd (omega (arith, under, over));
      }
      | inr over ↦ elim (cases_lt b to) [
        | inl within ↦ absurd (let is = numbers_have from (to - from) b over (omega (arith, within)) in let isnt = first.1 in cc)
        | inr above ↦ record { before = any_dropped (λ x. nat_le to x) b bs (le-leb to b above) both.1; outside = λ _. above }
      ]
    ]

-- ---- the numbers from an end on are written no more

-- how many go, where all are below another end
pub cut_length : (to end : ℕ) (bs : List ℕ) → AllByRecursion (λ b. b < end) bs → length (filter (λ b. nat_lt b to) bs) + count_between to end bs ≡ length bs
cut_length to end [] all = refl
cut_length to end (b ∷ bs) all =
    let rest = cut_length to end bs all.1 in
    elim (cases_lt b to) [
      | inl under ↦ rw (lt-ltb b to under, lt-leb to b under) (omega (arith, rest))
      | inr over ↦ rw (le-ltb b to over, le-leb to b over, lt-ltb b end all.0) (omega (arith, rest))
    ]

-- none is left below no end
pub cut_all : (bs : List ℕ) → filter (λ b. nat_lt b 0) bs ≡ []
cut_all [] = refl
cut_all (b ∷ bs) = rw (le-ltb b 0 (omega arith)) (cut_all bs)

-- a number below the end that isn't listed then wasn't before
pub cut_unlisted : (to b : ℕ) (bs : List ℕ) → b < to → is_listed b (filter (λ x. nat_lt x to) bs) ≡ false → is_listed b bs ≡ false
cut_unlisted to b bs low none = any_dropped (λ x. nat_lt x to) b bs (lt-ltb b to low) none

pub cut_below : (to : ℕ) (bs : List ℕ) → AllByRecursion (λ b. b < to) (filter (λ b. nat_lt b to) bs)
cut_below to bs = under_all to bs
