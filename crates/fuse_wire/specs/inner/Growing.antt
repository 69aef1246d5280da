-- What writers leave of the bytes before (own choice).
use Rattle.std.specs.Prelude.{◌≡◌, ℕ, List, ◌++◌}

-- nothing but more bytes
abbrev pub Extends : List ℕ → List ℕ → Type 0
Extends old new = (more : List ℕ) × (new ≡ old ++ more)
