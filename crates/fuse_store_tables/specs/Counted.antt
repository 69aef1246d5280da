-- How far SQLite counts (defined by this project; SQLite: count).
use Rattle.std.specs.Prelude.{ℕ, List, length, min}

-- SQLite counts no further
abbrev pub reached : ℕ → ℕ
reached n = min n 9223372036854775807

abbrev pub counted_to : {X : Type 0} → List X → ℕ
counted_to xs = reached (length xs)
