-- Bytes as worked examples print them (defined by this project).
use Rattle.std.specs.Prelude.{ℕ, List, [], ◌∷◌, ◌==◌, ◌+◌, ◌-◌, ◌*◌, nat_lt, if◌then◌else◌}

-- the value of a digit in lower case
abbrev pub hex_digit : ℕ → ℕ
hex_digit c = if nat_lt c 58 then c - 48 else c - 87

-- the bytes that a text stands for, as `hex (codes "10 feffffff")`; a space may stand between two bytes
abbrev pub hex : List ℕ → List ℕ
hex [] = []
hex (c ∷ []) = []
hex (c ∷ d ∷ text) = if c == 32 then hex (d ∷ text) else (16 * hex_digit c + hex_digit d) ∷ hex text
