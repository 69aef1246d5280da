-- A listing is the same without entries that end past its size.
use Rattle.std.proofs.Common.{◌≡◌, ◌<◌, ◌≤◌, ◌+◌, ◌-◌, ◌*◌, ℕ, zero, suc, Bool, true, false, cond, get_or, nat_lt, nat_le, List, [], ◌∷◌, ◌++◌, length, map, take, refl, sym, ap, ◌∙◌, arith}
use Rattle.std.specs.Prelude.{nat_eq, codes}
use Rattle.std.specs.List.{sum_by, take-map}
use Rattle.std.proofs.Math.Seq.{take-append-add}
use Rattle.std.proofs.lemmas.Bool.{ne_eqb, leb-true, leb-false, lt-leb}
use Rattle.std.proofs.lemmas.List.{length-map, length-append, take_more}
use Rattle.std.proofs.lemmas.List.Sums.{sum_by-append, sum_by-cons}
use Rattle.fuse_wire.specs.Errnos.{einval}
use Rattle.fuse_answer.specs.Entries.{DirectoryEntry, packed_len, entries_bytes, IsLongest, IsLongestBy, FirstIsTooBig, FirstIsTooBigBy}
use Rattle.fuse_rows.specs.declared.rows.Child.{Child}
use Rattle.fuse_rows.specs.declared.rows.NodeRow.{NodeRow}
use Rattle.fuse_tree.specs.Modes.{s_ifdir}
use Rattle.fuse_tree.specs.State.{type_of}
use Rattle.fuse_tree.specs.Listing.{most_by}
use Rattle.fuse_answer.specs.PlusEntries.{PlusEntry, plus_len, plus_bytes}
use Rattle.fuse_plan.specs.inner.Reading.{refused, told}
use Rattle.fuse_plan.specs.inner.PlanListing.{row_above, listed_child, row_len, row_len_with, dots_after, plan_prefix, IsCut}
use Rattle.fuse_plan.specs.inner.PlanPlus.{plus_dot, listed_plus, plan_plus_prefix}
use Rattle.fuse_plan.proofs.Prefixes.{longest, prefix_upto, first_cut, prefix_is, first_that_fits}

-- ---- one entry after the other

-- each takes so many bytes more
module _ (extra : ℕ) where
  abbrev size_of : Child → ℕ
  size_of e = row_len_with extra e

  one_len : (e : Child) → sum_by size_of (e ∷ []) ≡ size_of e
  one_len e = let s = sum_by-cons size_of e [] in omega (arith, s)

  pub sum_more : (es : List Child) (i : ℕ) (e : Child) → i < length es → get_or es i e ≡ e
      → sum_by size_of (take (i + 1) es) ≡ sum_by size_of (take i es) + size_of e
  sum_more es i e within is =
      ap (sum_by size_of) (take_more es i e within ∙ ap (λ (x : Child). take i es ++ x ∷ []) is)
      ∙ sum_by-append size_of (take i es) (e ∷ []) ∙ ap (λ (n : ℕ). sum_by size_of (take i es) + n) (one_len e)

  sum_grows : (es : List Child) (n m : ℕ) → n ≤ m → sum_by size_of (take n es) ≤ sum_by size_of (take m es)
  sum_grows es zero m le = omega arith
  sum_grows es (suc n) zero le = absurd (omega (arith, le))
  sum_grows [] (suc n) (suc m) le = omega arith
  sum_grows (e ∷ es) (suc n) (suc m) le =
      let rest = sum_grows es n m (omega (arith, le)) in omega (arith, rest, sum_by-cons size_of e (take n es), sum_by-cons size_of e (take m es))

  -- ---- the cut, in a list of elements made of the rows

  module _ {A : Type 0} (len : A → ℕ) (make : Child → A) (same : (e : Child) → len (make e) ≡ size_of e) where
    sum_made : (es : List Child) → sum_by len (map make es) ≡ sum_by size_of es
    sum_made [] = refl
    sum_made (e ∷ es) = omega (arith, sum_by-cons len (make e) (map make es), same e, sum_made es, sum_by-cons size_of e es)

    most_cut : (first : List A) (es : List Child) (size left n : ℕ) → size ≤ sum_by len first + left → IsCut extra es left n
        → most_by len (first ++ map make es) size (length (first ++ map make es)) ≤ length first + n
    most_cut first es size left n room cut = step (nat_le m (length first + n)) refl
      where
        all : List A
        all = first ++ map make es

        m : ℕ
        m = most_by len all size (length all)

        step : (b : Bool) → nat_le m (length first + n) ≡ b → m ≤ length first + n
        step true is = leb-true m (length first + n) is
        step false is =
            let past : length first + n < m = leb-false m (length first + n) is in
            let j : ℕ = m - length first in
            let sums : sum_by len (take m all) ≡ sum_by len first + sum_by size_of (take j es) =
            ap (λ (k : ℕ). sum_by len (take k all)) (let e : m ≡ length first + j = omega (arith, past) in e)
            ∙ ap (sum_by len) (take-append-add first (map make es) j ∙ ap (λ (xs : List A). first ++ xs) (take-map make j es))
            ∙ sum_by-append len first (map make (take j es)) ∙ ap (λ (k : ℕ). sum_by len first + k) (sum_made (take j es)) in
            let prefix = longest len all size in
            let count : length all ≡ length first + length es =
            length-append first (map make es) ∙ ap (λ (k : ℕ). length first + k) (length-map es make) in
            let over = cut.past (omega (arith, past, prefix.within, count)) in
            let grows = sum_grows es (n + 1) j (omega (arith, past)) in
            absurd (omega (arith, sums, over, grows, prefix.fits, room))

cut_is : {A : Type 0} (make : Child → A) (first : List A) (es : List Child) (n : ℕ)
    → first ++ map make (take n es) ≡ take (length first + n) (first ++ map make es)
cut_is {A} make first es n = ap (λ (xs : List A). first ++ xs) (sym (take-map make n es)) ∙ sym (take-append-add first (map make es) n)

-- ---- the dots

pub record DotsFit (es : List DirectoryEntry) : Type 0 where
  pub few : length es ≤ 2
  pub sum : sum_by packed_len es ≡ 32 * length es
  pub long_sum : sum_by plus_len (map plus_dot es) ≡ 160 * length es

abbrev dot : ℕ → ℕ → List ℕ → DirectoryEntry
dot ino off name = record { ino = ino; off = off; kind = type_of s_ifdir; name = name }

pub dots_fit : (offset : ℕ) (row : NodeRow) → DotsFit (dots_after offset row)
dots_fit offset row = step (nat_lt offset 1) (nat_lt offset 2)
  where
    step : (a b : Bool)
        → DotsFit (cond a (dot row.node 1 (codes ".") ∷ cond b (dot (row_above row) 2 (codes "..") ∷ []) [])
        (cond b (dot (row_above row) 2 (codes "..") ∷ []) []))
    step true true = record { few = omega arith; sum = refl; long_sum = refl }
    step true false = record { few = omega arith; sum = refl; long_sum = refl }
    step false true = record { few = omega arith; sum = refl; long_sum = refl }
    step false false = record { few = omega arith; sum = refl; long_sum = refl }

-- ---- entries that are left out

-- where an entry is listed, the rest may be left out
pub same_told : (first : List DirectoryEntry) (es : List Child) (size left n : ℕ) → size ≤ sum_by packed_len first + left → 0 < length first + n
    → IsCut 0 es left n
    → plan_prefix (first ++ map (listed_child) (take n es)) size ≡ plan_prefix (first ++ map (listed_child) es) size
same_told first es size left n room some cut =
    let all : List DirectoryEntry = first ++ map (listed_child) es in
    rw (
      cut_is (listed_child) first es n,
      first_cut packed_len all size (length first + n) some,
      prefix_upto packed_len all size (length first + n) (most_cut 0 packed_len (listed_child) (λ e. omega arith) first es size left n room cut),
    ) refl

pub same_plus : (valid : ℕ) (first : List PlusEntry) (es : List Child) (size left n : ℕ) → size ≤ sum_by plus_len first + left
    → 0 < length first + n → IsCut 128 es left n
    → plan_plus_prefix (first ++ map (listed_plus valid) (take n es)) size ≡ plan_plus_prefix (first ++ map (listed_plus valid) es) size
same_plus valid first es size left n room some cut =
    let all : List PlusEntry = first ++ map (listed_plus valid) es in
    rw (
      cut_is (listed_plus valid) first es n,
      first_cut plus_len all size (length first + n) some,
      prefix_upto plus_len all size (length first + n) (most_cut 128 plus_len (listed_plus valid) (λ e. refl) first es size left n room cut),
    ) refl

-- where nothing is
pub none_told : (es : List Child) (size : ℕ) → IsCut 0 es size 0
    → cond (nat_eq (length es) 0) (told []) (refused einval) ≡ plan_prefix (map (listed_child) es) size
none_told [] size cut = refl
none_told (e ∷ es) size cut =
    let past : size < row_len e = let over = cut.past (omega arith) in omega (arith, over, one_len 0 e) in
    rw (ne_eqb (length (e ∷ es)) 0 (λ same. absurd (omega (arith, same))), lt-leb (row_len e) size past) refl

pub none_plus : (valid : ℕ) (es : List Child) (size : ℕ) → IsCut 128 es size 0
    → cond (nat_eq (length es) 0) (told []) (refused einval) ≡ plan_plus_prefix (map (listed_plus valid) es) size
none_plus valid [] size cut = refl
none_plus valid (e ∷ es) size cut =
    let past : size < row_len_with 128 e = let over = cut.past (omega arith) in omega (arith, over, one_len 128 e) in
    rw (ne_eqb (length (e ∷ es)) 0 (λ same. absurd (omega (arith, same))), lt-leb (row_len_with 128 e) size past) refl

-- the body that is packed is the one that is planned
pub prefix_planned : (es : List DirectoryEntry) (size n : ℕ) (body : List ℕ) → (FirstIsTooBig es size → ⊥) → IsLongest es size n → body ≡ entries_bytes (take n es)
    → told body ≡ plan_prefix es size
prefix_planned es size n body fits is e =
    rw (first_that_fits packed_len es size fits) (ap told (e ∙ ap entries_bytes (prefix_is packed_len es size n is)))

-- the body that is packed is the one that is planned
pub plus_planned : (es : List PlusEntry) (size n : ℕ) (body : List ℕ) → (FirstIsTooBigBy plus_len es size → ⊥) → IsLongestBy plus_len es size n
    → body ≡ plus_bytes (take n es) → told body ≡ plan_plus_prefix es size
plus_planned es size n body fits is e = rw (first_that_fits plus_len es size fits) (ap told (e ∙ ap plus_bytes (prefix_is plus_len es size n is)))
