-- Different names are written differently.
use Rattle.std.proofs.Common.{◌≡◌, ◌<◌, ◌≤◌, ◌+◌, ◌*◌, ◌-◌, ◌/◌, ◌%◌, ◌++◌, ◌∷◌, ℕ, List, [], Bool, true, false, cond, refl, sym, ap, ap₂, ◌∙◌, arith}
use Rattle.std.specs.Prelude.{nat_lt}
use Rattle.std.proofs.Math.Nat.{mod-add-div'}
use Rattle.std.proofs.lemmas.Bool.{ltb-true, ltb-false}
use Rattle.fuse_show.specs.Names.{hex_digit, is_plain, name_text}

-- ---- digits

digit_by : (p q : Bool) (n m : ℕ) → nat_lt n 10 ≡ p → nat_lt m 10 ≡ q → cond p (48 + n) (97 + (n - 10)) ≡ cond q (48 + m) (97 + (m - 10)) → n ≡ m
digit_by true true n m pn pm same = omega arith
digit_by true false n m pn pm same = let low : n < 10 = ltb-true n 10 pn in absurd (omega arith)
digit_by false true n m pn pm same = let low : m < 10 = ltb-true m 10 pm in absurd (omega arith)
digit_by false false n m pn pm same =
    let a : 10 ≤ n = ltb-false n 10 pn in
    let b : 10 ≤ m = ltb-false m 10 pm in
    omega arith

digit_same : (n m : ℕ) → hex_digit n ≡ hex_digit m → n ≡ m
digit_same n m same = digit_by (nat_lt n 10) (nat_lt m 10) n m refl refl same

by_digits : (x y : ℕ) → hex_digit (x / 16) ≡ hex_digit (y / 16) → hex_digit (x % 16) ≡ hex_digit (y % 16) → x ≡ y
by_digits x y high low =
    sym (mod-add-div' x 16)
    ∙ ap₂ (λ (a b : ℕ). a + b * 16) (digit_same (x % 16) (y % 16) low) (digit_same (x / 16) (y / 16) high)
    ∙ mod-add-div' y 16

-- ---- a byte, and what follows it

abbrev text_by : Bool → ℕ → List ℕ
text_by p b = cond p (b ∷ []) (92 ∷ 120 ∷ hex_digit (b / 16) ∷ hex_digit (b % 16) ∷ [])

byte_by : (p q : Bool) (x y : ℕ) (xs ys : List ℕ) → is_plain x ≡ p → is_plain y ≡ q → text_by p x ++ xs ≡ text_by q y ++ ys → (x ≡ y) × (xs ≡ ys)
byte_by true true x y xs ys px py same = (cc, cc)
byte_by true false x y xs ys px py same =
    let odd : x ≡ 92 = cc in
    let no : false ≡ true = ap is_plain (sym odd) ∙ px in
    absurd cc
byte_by false true x y xs ys px py same =
    let odd : y ≡ 92 = cc in
    let no : false ≡ true = ap is_plain (sym odd) ∙ py in
    absurd cc
byte_by false false x y xs ys px py same =
    let high : hex_digit (x / 16) ≡ hex_digit (y / 16) = cc in
    let low : hex_digit (x % 16) ≡ hex_digit (y % 16) = cc in
    let rest : xs ≡ ys = cc in
    (by_digits x y high low, rest)

some_text : (p : Bool) (x : ℕ) (xs : List ℕ) → [] ≡ text_by p x ++ xs → ⊥
some_text true x xs same = absurd cc
some_text false x xs same = absurd cc

-- ---- a name

pub names_apart : (a b : List ℕ) → name_text a ≡ name_text b → a ≡ b
names_apart [] [] same = refl
names_apart [] (y ∷ ys) same = absurd (some_text (is_plain y) y (name_text ys) same)
names_apart (x ∷ xs) [] same = absurd (some_text (is_plain x) x (name_text xs) (sym same))
names_apart (x ∷ xs) (y ∷ ys) same =
    let p = byte_by (is_plain x) (is_plain y) x y (name_text xs) (name_text ys) refl refl same in
    ap₂ (λ (z : ℕ) (zs : List ℕ). z ∷ zs) p.0 (names_apart xs ys p.1)
