-- A name on one line, for any bytes (defined by this project).
use Rattle.std.specs.Prelude.{◌≡◌, ◌+◌, ◌-◌, ◌/◌, ◌%◌, ◌==◌, ◌&&◌, ℕ, Bool, not, nat_le, nat_lt, if◌then◌else◌, List, [], ◌∷◌}
use Rattle.std.specs.List.{flat_map}

-- the digit of a number below 16
abbrev pub hex_digit : ℕ → ℕ
hex_digit n = if nat_lt n 10 then 48 + n else 97 + (n - 10)

-- printable ASCII other than the backslash
abbrev pub is_plain : ℕ → Bool
is_plain b = nat_le 32 b && (nat_lt b 127 && not (b == 92))

-- the byte itself, or \x and its two hexadecimal digits
abbrev pub byte_text : ℕ → List ℕ
byte_text b = if is_plain b then b ∷ [] else 92 ∷ 120 ∷ hex_digit (b / 16) ∷ hex_digit (b % 16) ∷ []

abbrev pub name_text : List ℕ → List ℕ
name_text name = flat_map byte_text name

-- ---- laws

-- names that are written alike are one
abbrev pub NamesApart : Type 0
NamesApart = (a b : List ℕ) → name_text a ≡ name_text b → a ≡ b
