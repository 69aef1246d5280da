-- UNIQUE keeps the blocks apart.
use Rattle.std.proofs.Common.{◌≡◌, ℕ, Bool, true, false, not, ◌&&◌, ◌||◌, Less, Greater, refl, ap, arith}
use Rattle.std.specs.Ordering.{is_ne, nat_cmp}
use Rattle.std.proofs.lemmas.Bool.Decides.{nat_tests}

pub neither : (a b : Bool) → (a || b) ≡ false → (a ≡ false) × (b ≡ false)
neither true b e = absurd cc
neither false b e = (refl, e)

pub first_false : (a d : Bool) → d ≡ true → (a && d) ≡ false → a ≡ false
first_false true true is e = absurd cc
first_false true false is e = absurd cc
first_false false d is e = refl

reversed : (a b : ℕ) → nat_cmp a b ≡ Less → nat_cmp b a ≡ Greater
reversed a b below = grind (arith, nat_tests)

pub above_differs : (a b : ℕ) → nat_cmp a b ≡ Less → is_ne (nat_cmp b a) ≡ true
above_differs a b below = ap is_ne (reversed a b below)

pub not_true : (b : Bool) → (not b && true) ≡ true → b ≡ false
not_true true e = absurd cc
not_true false e = refl
