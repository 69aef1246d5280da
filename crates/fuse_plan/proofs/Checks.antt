-- Where no check of an operation applies, each test of them fails.
use Rattle.std.proofs.Common.{◌≡◌, Bool, true, false, cond, List, [], ◌∷◌, Option, Some, None, refl}
use Rattle.fuse_wire.specs.declared.errno.Errno.{Errno}
use Rattle.fuse_tree.specs.Checks.{Check, Where, Part, earlier, error_in, first_error}

pub earlier_none : (one two : Option Errno) → earlier one two ≡ None → (one ≡ None) × (two ≡ None)
earlier_none (Some errno) two is = absurd cc
earlier_none None two is = (refl, is)

pub cond_none : (b : Bool) (errno : Errno) (o : Option Errno) → cond b (Some errno) o ≡ None → (b ≡ false) × (o ≡ None)
cond_none true errno o is = absurd cc
cond_none false errno o is = (refl, is)

-- what follows from it, given for each check that it doesn't apply
abbrev pub Passed : List Check → Type 0 → Type 0
Passed [] P = P
Passed (Where errno applies ∷ checks) P = applies ≡ false → Passed checks P
Passed (Part tests ∷ checks) P = error_in tests ≡ None → Passed checks P

pub passed : (checks : List Check) (P : Type 0) → first_error checks ≡ None → Passed checks P → P
passed [] P none so = so
passed (Where errno applies ∷ checks) P none so = let h = cond_none applies errno _ none in passed checks P h.1 (so h.0)
passed (Part tests ∷ checks) P none so = let h = earlier_none (error_in tests) _ none in passed checks P h.1 (so h.0)
