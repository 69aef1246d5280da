-- The entries after an offset, and those of them that fit.
use Rattle.std.proofs.Common.{◌≡◌, ◌≤◌, ◌-◌, ℕ, zero, suc, Bool, true, false, not, cond, nat_le, nat_lt, List, [], ◌∷◌, map}
use Rattle.std.proofs.Common.{take, drop, refl, sym, ap, ◌∙◌, arith}
use Rattle.std.specs.List.{sum_by}
use Rattle.std.proofs.lemmas.Bool.{leb-true, leb-false, le-ltb}
use Rattle.std.proofs.lemmas.List.{drop-map, drop_all}
use Rattle.std.proofs.lemmas.List.Sums.{sum_by-cons}
use Rattle.fuse_answer.specs.declared.dirent.Dirent.{Dirent}
use Rattle.fuse_answer.specs.Entries.{DirectoryEntry, directory_entry_of, packed_len, entries_bytes, IsLongest, FirstIsTooBig}
use Rattle.five_files.specs.Answers.{give}
use Rattle.five_files.specs.Listing.{entries, entries_following, fitting, first_fits, list}

-- ---- after an offset

past : (offset : ℕ) → 6 ≤ offset → [] ≡ entries_following offset
past offset many =
    let one : nat_lt offset 1 ≡ false = le-ltb offset 1 (omega arith) in
    let two : nat_lt offset 2 ≡ false = le-ltb offset 2 (omega arith) in
    let three : nat_lt offset 3 ≡ false = le-ltb offset 3 (omega arith) in
    let four : nat_lt offset 4 ≡ false = le-ltb offset 4 (omega arith) in
    let five : nat_lt offset 5 ≡ false = le-ltb offset 5 (omega arith) in
    let six : nat_lt offset 6 ≡ false = le-ltb offset 6 (omega arith) in
    rw (one, two, three, four, five, six) refl

-- the offset of an entry is its place
dropped : (offset : ℕ) → drop offset entries ≡ entries_following offset
dropped zero = refl
dropped (suc zero) = refl
dropped (suc (suc zero)) = refl
dropped (suc (suc (suc zero))) = refl
dropped (suc (suc (suc (suc zero)))) = refl
dropped (suc (suc (suc (suc (suc zero))))) = refl
dropped (suc (suc (suc (suc (suc (suc n)))))) =
    drop_all (suc (suc (suc (suc (suc (suc n)))))) entries (omega arith) ∙ past (suc (suc (suc (suc (suc (suc n)))))) (omega arith)

pub after_is : (ds : List Dirent) (offset : ℕ) → map directory_entry_of ds ≡ entries → map directory_entry_of (drop offset ds) ≡ entries_following offset
after_is ds offset is = sym (drop-map directory_entry_of offset ds) ∙ ap (drop offset) is ∙ dropped offset

-- ---- that fit

shorter : (e : DirectoryEntry) (es : List DirectoryEntry) (size n : ℕ) → packed_len e ≤ size → IsLongest (e ∷ es) size (suc n) → IsLongest es (size - packed_len e) n
shorter e es size n fits is = record {
  within = omega (arith, is.within);
  fits = omega (arith, is.fits, sum_by-cons packed_len e (take n es));
  longest = λ m few sum. omega (arith, is.longest (suc m) (omega (arith, few)) (omega (arith, fits, sum, sum_by-cons packed_len e (take m es))));
}

-- the longest prefix has the entries that fit one after the other
pub prefix_is : (es : List DirectoryEntry) (size n : ℕ) → IsLongest es size n → take n es ≡ fitting es size
prefix_is [] size zero is = refl
prefix_is [] size (suc n) is = absurd (omega (arith, is.within))
prefix_is (e ∷ es) size zero is =
    let step : (b : Bool) → nat_le (packed_len e) size ≡ b → [] ≡ cond b (e ∷ fitting es (size - packed_len e)) [] =
    elim [
      | true ↦ λ fits. absurd (omega (arith, is.longest 1 (omega arith) (omega (arith, leb-true _ size fits, sum_by-cons packed_len e []))))
      | false ↦ λ past. refl
    ] in
    step (nat_le (packed_len e) size) refl
prefix_is (e ∷ es) size (suc n) is =
    let step : (b : Bool) → nat_le (packed_len e) size ≡ b → e ∷ take n es ≡ cond b (e ∷ fitting es (size - packed_len e)) [] =
    elim [
      | true ↦ λ fits. ap (λ (xs : List DirectoryEntry). e ∷ xs) (prefix_is es (size - packed_len e) n (shorter e es size n (leb-true _ size fits) is))
      | false ↦ λ past. absurd (omega (arith, is.fits, leb-false _ size past, sum_by-cons packed_len e (take n es)))
    ] in
    step (nat_le (packed_len e) size) refl

pub fitting_fits : (es : List DirectoryEntry) (size : ℕ) → sum_by packed_len (fitting es size) ≤ size
fitting_fits [] size = omega arith
fitting_fits (e ∷ es) size =
    let step : (b : Bool) → nat_le (packed_len e) size ≡ b → sum_by packed_len (cond b (e ∷ fitting es (size - packed_len e)) []) ≤ size =
    elim [
      | true ↦ λ fits. omega (arith, leb-true _ size fits, fitting_fits es (size - packed_len e), sum_by-cons packed_len e (fitting es (size - packed_len e)))
      | false ↦ λ past. omega arith
    ] in
    step (nat_le (packed_len e) size) refl

first_that_fits : (es : List DirectoryEntry) (size : ℕ) → (FirstIsTooBig es size → ⊥) → not (first_fits es size) ≡ false
first_that_fits [] size fits = refl
first_that_fits (e ∷ es) size fits =
    let step : (b : Bool) → nat_le (packed_len e) size ≡ b → not b ≡ false =
    elim [ true ↦ λ is. refl | false ↦ λ is. absurd (fits (leb-false _ size is)) ] in
    step (nat_le (packed_len e) size) refl

-- the entries that are packed are those to be listed
pub prefix_listed : (es : List DirectoryEntry) (size n : ℕ) (body : List ℕ) → (FirstIsTooBig es size → ⊥) → IsLongest es size n
    → body ≡ entries_bytes (take n es) → give body ≡ list es size
prefix_listed es size n body fits is e = rw (first_that_fits es size fits) (ap give (e ∙ ap entries_bytes (prefix_is es size n is)))
