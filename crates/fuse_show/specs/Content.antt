-- The bytes of a file (defined by this project).
use Rattle.std.specs.Prelude.{ℕ, List}
use Rattle.fuse_rows.specs.Rows.{Rows, full_at, content_of}

-- all bytes of the node with this number
abbrev pub content_at : Rows → ℕ → List ℕ
content_at rows number = content_of (full_at rows number)
