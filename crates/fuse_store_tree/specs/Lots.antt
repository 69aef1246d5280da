-- The lots and the records of a database, read from its rows (defined by this project).
use Rattle.std.specs.Prelude.{◌≡◌, ℕ, ℤ, pos, List, [], map, Option}
use Rattle.sqlite.specs.declared.types.Value.{Value}
use Rattle.sqlite.specs.declared.types.Value.TheVariants.{Int, Blob}
use Rattle.sqlite.specs.Order.{Row, column}
use Rattle.sqlite.specs.Effect.{Database}
use Rattle.fuse_keeper.specs.Lots.{Lots, SameLots}
use Rattle.fuse_store_tables.specs.Content.{Kept}
use Rattle.fuse_store_tree.specs.Holding.{Holding, HeldFor, lots_as, lots_of}

-- ---- columns; 0 and no bytes where the value has another type

abbrev pub number_of_int : ℤ → ℕ
number_of_int (pos n) = n
number_of_int _ = 0

abbrev pub int_in : Value → ℤ
int_in (Int z) = z
int_in _ = pos 0

abbrev pub blob_in : Value → List ℕ
blob_in (Blob b) = b
blob_in _ = []

abbrev pub number_in_row : Row → ℕ → ℕ
number_in_row r at = number_of_int (int_in (column r at))

abbrev pub bytes_in_row : Row → ℕ → List ℕ
bytes_in_row r at = blob_in (column r at)

-- ---- rows

abbrev pub lot_in : Row → ℕ
lot_in r = number_in_row r 0

abbrev pub record_in_row : Row → Kept
record_in_row r = record { id = number_in_row r 0; lot = number_in_row r 2; said = record { errno = number_in_row r 3; body = bytes_in_row r 4 } }

-- ---- tables

abbrev pub lots_read : Database → List ℕ
lots_read d = map lot_in (d.trees 9)

abbrev pub kept_read : Database → List Kept
kept_read d = map record_in_row (d.trees 10)

-- the lots of a database, and the one of this opening
abbrev pub lots_in : Option ℕ → Database → Lots
lots_in current d = lots_as current (lots_read d) (kept_read d)

-- ---- laws

-- the lots read from a database are those that it holds
abbrev pub LotsAreRead : Type 0
LotsAreRead = (current : Option ℕ) (file : List ℕ) (y : Holding) (d : Database) → HeldFor file y d → lots_in current d ≡ lots_of current y

-- the same, in the words of a keeper
abbrev pub LotsAreSame : Type 0
LotsAreSame = (current : Option ℕ) (file : List ℕ) (y : Holding) (d : Database) → HeldFor file y d → SameLots (lots_of current y) (lots_in current d)
