-- The longest prefix of entries that fits.
use Rattle.std.proofs.Common.{◌≡◌, ◌≢◌, ◌≤◌, ◌<◌, ◌*◌, ℕ, zero, suc, Bool, true, false, not, cond, nat_le, List, [], ◌∷◌, length, take, refl, sym, ap, subst, ◌∙◌, arith}
use Rattle.std.specs.List.{AllByRecursion, sum_by}
use Rattle.std.proofs.lemmas.Bool.{leb-true, leb-false}
use Rattle.std.proofs.lemmas.List.{length-take, take-take}
use Rattle.std.proofs.lemmas.List.Sums.{sum_by-cons}
use Rattle.fuse_answer.specs.Entries.{DirectoryEntry, IsNamed, packed_len, IsLongestBy, FirstIsTooBigBy}
use Rattle.fuse_answer.specs.PlusEntries.{PlusEntry, plus_len}
use Rattle.fuse_tree.specs.Listing.{most_by, longest_by, first_fits_by, most, longest_prefix}

most_within : {A : Type 0} (len : A → ℕ) (es : List A) (size n : ℕ) → most_by len es size n ≤ n
most_within len es size zero = omega arith
most_within len es size (suc n) =
    let rest = most_within len es size n in
    elim (nat_le (sum_by len (take (suc n) es)) size) as
    (λ b. cond b (suc n) (most_by len es size n) ≤ suc n) [ true ↦ omega arith | false ↦ omega (arith, rest) ]

most_fits : {A : Type 0} (len : A → ℕ) (es : List A) (size n : ℕ) → sum_by len (take (most_by len es size n) es) ≤ size
most_fits len es size zero = omega arith
most_fits len es size (suc n) =
    let step : (b : Bool) → nat_le (sum_by len (take (suc n) es)) size ≡ b → sum_by len (take (cond b (suc n) (most_by len es size n)) es) ≤ size =
    elim [ true ↦ λ is. leb-true _ size is | false ↦ λ is. most_fits len es size n ] in
    step (nat_le (sum_by len (take (suc n) es)) size) refl

most_most : {A : Type 0} (len : A → ℕ) (es : List A) (size n m : ℕ) → m ≤ n → sum_by len (take m es) ≤ size → m ≤ most_by len es size n
most_most len es size zero m few fits = few
most_most len es size (suc n) m few fits =
    let step : (b : Bool) → nat_le (sum_by len (take (suc n) es)) size ≡ b → m ≤ cond b (suc n) (most_by len es size n) =
    elim [
      | true ↦ λ is. few
      | false ↦ λ is. let past : size < sum_by len (take (suc n) es) = leb-false _ size is in
          let other : m ≢ suc n = λ same. let all = ap (λ (k : ℕ). sum_by len (take k es)) same in omega (arith, all, past, fits) in
          most_most len es size n m (omega (arith, few, other)) fits
    ] in
    step (nat_le (sum_by len (take (suc n) es)) size) refl

pub longest : {A : Type 0} (len : A → ℕ) (es : List A) (size : ℕ) → IsLongestBy len es size (most_by len es size (length es))
longest len es size =
    record { within = most_within len es size (length es); fits = most_fits len es size (length es); longest = λ m few fits. most_most len es size (length es) m few fits }

one_longest : {A : Type 0} (len : A → ℕ) (es : List A) (size n m : ℕ) → IsLongestBy len es size n → IsLongestBy len es size m → n ≡ m
one_longest len es size n m a b = omega (arith, b.longest n a.within a.fits, a.longest m b.within b.fits)

pub prefix_is : {A : Type 0} (len : A → ℕ) (es : List A) (size n : ℕ) → IsLongestBy len es size n → take n es ≡ longest_by len es size
prefix_is len es size n is = ap (λ (k : ℕ). take k es) (one_longest len es size n _ is (longest len es size))

pub first_that_fits : {A : Type 0} (len : A → ℕ) (es : List A) (size : ℕ) → (FirstIsTooBigBy len es size → ⊥) → not (first_fits_by len es size) ≡ false
first_that_fits len [] size fits = refl
first_that_fits len (e ∷ es) size fits =
    let step : (b : Bool) → nat_le (len e) size ≡ b → not b ≡ false =
    elim [ true ↦ λ is. refl | false ↦ λ is. absurd (fits (leb-false _ size is)) ] in
    step (nat_le (len e) size) refl

-- ---- entries that are left out

cut_longest : {A : Type 0} (len : A → ℕ) (es : List A) (size k : ℕ) → most_by len es size (length es) ≤ k
    → IsLongestBy len (take k es) size (most_by len es size (length es))
cut_longest {A} len es size k few =
    let all = longest len es size in
    let n : ℕ = most_by len es size (length es) in
    let count = length-take k es in
    let same : take n (take k es) ≡ take n es = take-take n k es few in
    record {
      within = omega (arith, few, all.within, count);
      fits = subst (λ (fs : List A). sum_by len fs ≤ size) (sym same) all.fits;
      longest =
          λ m fewer fits. all.longest m (omega (arith, fewer, count))
          (subst (λ (fs : List A). sum_by len fs ≤ size) (take-take m k es (omega (arith, fewer, count))) fits);
    }

-- the prefix is the same where entries are left out that are not of it
pub prefix_upto : {A : Type 0} (len : A → ℕ) (es : List A) (size k : ℕ) → most_by len es size (length es) ≤ k
    → longest_by len (take k es) size ≡ longest_by len es size
prefix_upto len es size k few =
    let n : ℕ = most_by len es size (length es) in
    sym (prefix_is len (take k es) size n (cut_longest len es size k few)) ∙ take-take n k es few

pub first_cut : {A : Type 0} (len : A → ℕ) (es : List A) (size k : ℕ) → 0 < k → first_fits_by len (take k es) size ≡ first_fits_by len es size
first_cut len [] size zero some = refl
first_cut len [] size (suc k) some = refl
first_cut len (e ∷ es) size zero some = absurd (omega (arith, some))
first_cut len (e ∷ es) size (suc k) some = refl

-- ---- more entries than can fit

least_sum : (es : List DirectoryEntry) (n : ℕ) → AllByRecursion IsNamed es → n ≤ length es → 32 * n ≤ sum_by packed_len (take n es)
least_sum es zero named few = omega arith
least_sum [] (suc n) named few = absurd (omega (arith, few))
least_sum (e ∷ es) (suc n) named few =
    let least : 32 ≤ packed_len e = omega (arith, named.0.0) in
    omega (arith, sum_by-cons packed_len e (take n es), least, least_sum es n named.1 (omega (arith, few)))

-- and so where they can't fit
pub prefix_cut : (es : List DirectoryEntry) (size k : ℕ) → AllByRecursion IsNamed es → size < 32 * k → longest_prefix (take k es) size ≡ longest_prefix es size
prefix_cut es size k named past =
    let n : ℕ = most es size (length es) in
    prefix_upto packed_len es size k
    (omega (arith, least_sum es n named (most_within packed_len es size (length es)), most_fits packed_len es size (length es), past))

-- in READDIRPLUS each takes 128 bytes more
abbrev pub HasName : PlusEntry → Type 0
HasName e = IsNamed e.entry

long_sum : (es : List PlusEntry) (n : ℕ) → AllByRecursion HasName es → n ≤ length es → 160 * n ≤ sum_by plus_len (take n es)
long_sum es zero named few = omega arith
long_sum [] (suc n) named few = absurd (omega (arith, few))
long_sum (e ∷ es) (suc n) named few =
    let least : 160 ≤ plus_len e = omega (arith, named.0.0) in
    omega (arith, sum_by-cons plus_len e (take n es), least, long_sum es n named.1 (omega (arith, few)))

pub plus_cut : (es : List PlusEntry) (size k : ℕ) → AllByRecursion HasName es → size < 160 * k → longest_by plus_len (take k es) size ≡ longest_by plus_len es size
plus_cut es size k named past =
    let n : ℕ = most_by plus_len es size (length es) in
    prefix_upto plus_len es size k
    (omega (arith, long_sum es n named (most_within plus_len es size (length es)), most_fits plus_len es size (length es), past))
