-- The names of a path (defined by this project).
use Rattle.std.specs.Prelude.{◌==◌, ℕ, not, List, length, filter}
use Rattle.std.specs.List.{slice_split}

-- the parts of a path between slashes that are not empty
unfoldable pub names_of : List ℕ → List (List ℕ)
names_of path = filter (λ name. not (length name == 0)) (slice_split (λ b. b == 47) path)
