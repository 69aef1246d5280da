-- Labels and numbers (defined by this project).
use Rattle.std.specs.Prelude.{ℕ, List, ◌++◌, decimal}
use Rattle.std.specs.List.{flat_map}

-- each label, and its number after it
abbrev pub fields_text : List (List ℕ × ℕ) → List ℕ
fields_text fields = flat_map (λ f. f.0 ++ decimal f.1) fields
