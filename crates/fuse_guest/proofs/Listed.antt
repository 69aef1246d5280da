-- Entries of directories, one after the other.
use Rattle.std.proofs.Common.{◌≡◌, ◌<◌, ◌≤◌, ◌+◌, ◌-◌, ℕ, zero, suc, Bool, true, false, List, [], ◌∷◌, length, drop, Some, None, refl, sym, ap, ◌∙◌, arith}
use Rattle.std.specs.Prelude.{◌==◌}
use Rattle.std.proofs.Math.Dec.{eqb-suc-zero}
use Rattle.std.proofs.lemmas.Bool.{eqb-true}
use Rattle.fuse_answer.specs.FirstEntry.{leading_entry}
use Rattle.fuse_guest.specs.RightBodies.{clean_rest, rest_passes, lists_entries}

none_left : (n before : ℕ) → lists_entries n before [] ≡ true
unfolding lists_entries
none_left zero before = refl
none_left (suc n) before = refl

next : (n before : ℕ) (rest : List ℕ) → 0 < length rest
    → lists_entries (suc n) before rest ≡ rest_passes (lists_entries n before) (clean_rest (leading_entry (drop before rest)))
unfolding lists_entries
next n before [] some = absurd (omega (arith, some))
next n before (x ∷ b) some = refl

last : (before : ℕ) (rest : List ℕ) → lists_entries zero before rest ≡ (length rest == 0)
unfolding lists_entries
last before [] = refl
last before (x ∷ b) = sym (eqb-suc-zero (length b))

-- nothing is left
pub all_listed : (n before : ℕ) (rest : List ℕ) (total : Bool) → (length rest == 0) ≡ true → lists_entries n before rest ≡ total → true ≡ total
all_listed n before [] total none so_far = sym (none_left n before) ∙ so_far
all_listed n before (x ∷ b) total none so_far = absurd (omega (arith, eqb-true (length (x ∷ b)) 0 none))

-- no entry stands first
pub none_stands : (n i before : ℕ) (rest : List ℕ) (total : Bool) → i < n → 0 < length rest → None ≡ clean_rest (leading_entry (drop before rest))
    → lists_entries (n - i) before rest ≡ total → false ≡ total
none_stands n i before rest total low some none so_far =
    let more : n - i ≡ suc (n - (i + 1)) = omega arith in
    ap (rest_passes (lists_entries (n - (i + 1)) before)) none ∙ sym (next (n - (i + 1)) before rest some)
    ∙ sym (ap (λ m. lists_entries m before rest) more) ∙ so_far

-- one does
pub one_stands : (n i before : ℕ) (rest follows : List ℕ) (total : Bool) → i < n → 0 < length rest
    → Some follows ≡ clean_rest (leading_entry (drop before rest)) → lists_entries (n - i) before rest ≡ total
    → lists_entries (n - (i + 1)) before follows ≡ total
one_stands n i before rest follows total low some one so_far =
    let more : n - i ≡ suc (n - (i + 1)) = omega arith in
    ap (rest_passes (lists_entries (n - (i + 1)) before)) one ∙ sym (next (n - (i + 1)) before rest some)
    ∙ sym (ap (λ m. lists_entries m before rest) more) ∙ so_far

pub ends_empty : (n i before : ℕ) (rest : List ℕ) (total : Bool) → n ≤ i → lists_entries (n - i) before rest ≡ total → (length rest == 0) ≡ total
ends_empty n i before rest total past so_far =
    let none : n - i ≡ zero = omega (arith, past) in
    sym (last before rest) ∙ sym (ap (λ m. lists_entries m before rest) none) ∙ so_far
