-- Rows as they are read (defined by this project).
use Rattle.std.specs.Prelude.{pos, ℕ, List, [], ◌∷◌, length, slice_index_or}
use Rattle.std.specs.Int.{w64, cast_signed}
use Rattle.sqlite.specs.declared.types.Value.TheVariants.{Int}
use Rattle.sqlite.specs.Order.{Row}
use Rattle.fuse_store_tables.specs.Content.{Counter, Kept}
use Rattle.fuse_store_tables.specs.Making.{counter}

abbrev pub shown_meta : Counter → Row
shown_meta c = Int (pos c.key) ∷ Int (cast_signed w64 c.value) ∷ []

-- a record, without its lot, and without the bytes of its body
abbrev pub shown_record : Kept → Row
shown_record k = Int (pos k.id) ∷ Int (pos k.said.errno) ∷ Int (pos (length k.said.body)) ∷ []

-- the value at this place
abbrev pub value_of : List Counter → ℕ → ℕ
value_of cs at = (slice_index_or cs at (counter 0 0)).value
