-- One row or none, of the piece that begins last (defined by this project).
use Rattle.std.specs.Prelude.{◌≡◌, List, Option}
use Rattle.std.specs.Option.{option_to_list}
use Rattle.sqlite.specs.Order.{Row}
use Rattle.fuse_store_tables.specs.Pieces.{Piece}
use Rattle.fuse_store_tables.specs.Ranges.{ShowsLast}

abbrev pub ShowsLastAlone : List Piece → List Row → Type 0
ShowsLastAlone ps rows = (found : Option Row) × (rows ≡ option_to_list found) × ShowsLast ps found
