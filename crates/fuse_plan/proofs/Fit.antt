-- An answer fits and is read: what the operations' lemmas share.
use Rattle.std.proofs.Common.{◌≡◌, Bool, true, false, cond, not, Option, Some, None, refl, ◌≤◌, ◌<◌, ◌&&◌, ℕ, inl, inr, if◌then◌else◌, nat_lt, List, [], ◌∷◌, length, arith}
use Rattle.std.specs.Prelude.{is_some, nat_le}
use Rattle.fuse_wire.specs.declared.errno.Errno.{Errno}
use Rattle.std.proofs.lemmas.Bool.{ltb-true, leb-true}
use Rattle.fuse_wire.specs.Bounds.{max_error_number}
use Rattle.fuse_answer.specs.Replies.{Kind, Nothing, of_nothing, IsBody, IsOfKind, IsAtMost}
use Rattle.fuse_answer.specs.Said.{FitsAnswer}
use Rattle.fuse_tree.specs.Checks.{Check, Where, Part, earlier, error_in, first_error}
use Rattle.fuse_tree.specs.State.{State}
use Rattle.fuse_tree.specs.Done.{Done, refuse, refuse_for, refuse_by, answer}
use Rattle.fuse_plan.proofs.Checks.{Passed, passed}
use Rattle.fuse_plan.proofs.Lists.{and_true}

pub not_false : (b : Bool) → not b ≡ false → b ≡ true
not_false true e = refl
not_false false e = absurd cc

pub none_some : {A : Type 0} (o : Option A) → is_some o ≡ false → o ≡ None
none_some None e = refl
none_some (Some x) e = absurd cc

-- neither test found a fault
pub no_fault : (b c : Bool) (e f : Errno) → cond b (Some e) (cond c (Some f) None) ≡ None → (b ≡ false) × (c ≡ false)
no_fault true c e f none = absurd cc
no_fault false true e f none = absurd cc
no_fault false false e f none = (refl, refl)

abbrev pub Fits : Done → Type 0
Fits d = FitsAnswer d.said

pub refused : (s : State) (errno : Errno) → Fits (refuse s errno)
refused s errno = record { refusal = λ _. refl; short = omega arith }

pub answered : (s : State) (body : List ℕ) → length body ≤ 1048576 → Fits (answer s body)
answered s body short = record { refusal = λ isnt. absurd (isnt refl); short = short }

pub chosen : (b : Bool) (d e : Done) → Fits d → Fits e → Fits (if b then d else e)
chosen true d e one two = one
chosen false d e one two = two

-- the other is answered only where the test fails
pub chosen_then : (b : Bool) (d e : Done) → Fits d → (b ≡ false → Fits e) → Fits (if b then d else e)
chosen_then true d e one two = one
chosen_then false d e one two = two refl

pub refused_for : (s : State) (fault : Option Errno) (d : Done) → Fits d → Fits (refuse_for s fault d)
refused_for s (Some errno) d so = refused s errno
refused_for s None d so = so

pub checked : (s : State) (checks : List Check) (d : Done) → Fits d → Fits (refuse_by s checks d)
checked s checks d so = refused_for s (first_error checks) d so

-- it is done only where no check applies
pub checked_then : (s : State) (checks : List Check) (d : Done) → Passed checks (Fits d) → Fits (refuse_by s checks d)
checked_then s checks d so = step (first_error checks) refl
  where
    step : (fault : Option Errno) → first_error checks ≡ fault → Fits (refuse_for s fault d)
    step (Some errno) is = refused s errno
    step None is = passed checks (Fits d) is so

-- ---- it is read

-- what is answered is read as an answer of this kind
abbrev pub Reads : Kind → Done → Type 0
Reads kind d = IsOfKind kind d.said

-- an error number that an answer may bear
abbrev pub is_error : Errno → Bool
is_error errno = nat_lt 0 errno.0 && nat_le errno.0 max_error_number

pub refused_reads : {kind : Kind} (s : State) (errno : Errno) → is_error errno ≡ true → Reads kind (refuse s errno)
refused_reads s errno e =
    let both = and_true _ _ e in
    let some : 0 < errno.0 = ltb-true 0 errno.0 both.0 in
    inr (λ none. absurd (omega (arith, none, some)), leb-true errno.0 max_error_number both.1, refl)

pub answered_reads : {kind : Kind} (s : State) (body : List ℕ) → IsBody kind body → Reads kind (answer s body)
answered_reads s body is = inl (refl, is)

pub chosen_reads : {kind : Kind} (b : Bool) (d e : Done) → Reads kind d → Reads kind e → Reads kind (if b then d else e)
chosen_reads true d e one two = one
chosen_reads false d e one two = two

-- ---- where it is refused, this is by an error that an answer may bear

pub IsError : Option Errno → Type 0
IsError None = Unit {0}
IsError (Some errno) = is_error errno ≡ true

pub error_where : (b : Bool) (errno : Errno) (o : Option Errno) → is_error errno ≡ true → IsError o → IsError (cond b (Some errno) o)
unfolding IsError
error_where true errno o one two = one
error_where false errno o one two = two

pub no_error : IsError None
unfolding IsError
no_error = tt

pub earlier_error : (one two : Option Errno) → IsError one → IsError two → IsError (earlier one two)
earlier_error None two a b = b
earlier_error (Some errno) two a b = a

abbrev pub are_errors : List (Errno × Bool) → Bool
are_errors [] = true
are_errors (test ∷ tests) = is_error test.0 && are_errors tests

pub tests_error : (tests : List (Errno × Bool)) → are_errors tests ≡ true → IsError (error_in tests)
tests_error [] e = no_error
tests_error (test ∷ tests) e = let h = and_true _ _ e in error_where test.1 test.0 (error_in tests) h.0 (tests_error tests h.1)

abbrev pub bear_errors : List Check → Bool
bear_errors [] = true
bear_errors (Where errno applies ∷ checks) = is_error errno && bear_errors checks
bear_errors (Part tests ∷ checks) = are_errors tests && bear_errors checks

checks_error : (checks : List Check) → bear_errors checks ≡ true → IsError (first_error checks)
checks_error [] e = no_error
checks_error (Where errno applies ∷ checks) e = let h = and_true _ _ e in error_where applies errno (first_error checks) h.0 (checks_error checks h.1)
checks_error (Part tests ∷ checks) e =
    let h = and_true _ _ e in earlier_error (error_in tests) (first_error checks) (tests_error tests h.0) (checks_error checks h.1)

pub refused_for_reads : {kind : Kind} (s : State) (fault : Option Errno) (d : Done) → IsError fault → Reads kind d → Reads kind (refuse_for s fault d)
unfolding IsError
refused_for_reads s None d is so = so
refused_for_reads s (Some errno) d is so = refused_reads s errno is

pub checked_reads : {kind : Kind} (s : State) (checks : List Check) (d : Done) → bear_errors checks ≡ true → Reads kind d → Reads kind (refuse_by s checks d)
checked_reads s checks d e so = refused_for_reads s (first_error checks) d (checks_error checks e) so

-- the body of an answer without one
pub no_body : IsBody Nothing []
no_body = (of_nothing, record { of_kind = refl; laid = refl; proper = tt })

-- ---- it isn't longer than was asked for

pub record Short (most : Option ℕ) (d : Done) : Type 0 where
  pub within : IsAtMost most (length d.said.body)

empty_short : (most : Option ℕ) → IsAtMost most 0
empty_short None = tt
empty_short (Some n) = omega arith

pub refused_short : (most : Option ℕ) (s : State) (errno : Errno) → Short most (refuse s errno)
refused_short most s errno = record { within = empty_short most }

pub nothing_short : (most : Option ℕ) (s : State) → Short most (answer s [])
nothing_short most s = record { within = empty_short most }

pub checked_short : (most : Option ℕ) (s : State) (checks : List Check) (d : Done) → Short most d → Short most (refuse_by s checks d)
checked_short most s checks d so = step (first_error checks)
  where
    step : (fault : Option Errno) → Short most (refuse_for s fault d)
    step (Some errno) = refused_short most s errno
    step None = so

pub chosen_short : (most : Option ℕ) (b : Bool) (d e : Done) → Short most d → Short most e → Short most (if b then d else e)
chosen_short most true d e one two = one
chosen_short most false d e one two = two
