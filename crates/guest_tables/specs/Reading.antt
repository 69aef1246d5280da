-- The content of a guest's tables, read from the rows of a database (defined by this project). 0 and no bytes stand where a value has another
-- type.
use Rattle.std.specs.Prelude.{◌≡◌, ℕ, ℤ, pos, List, [], map}
use Rattle.std.specs.Int.{w64, cast_unsigned}
use Rattle.sqlite.specs.declared.types.Value.{Value}
use Rattle.sqlite.specs.declared.types.Value.TheVariants.{Int, Blob}
use Rattle.sqlite.specs.Order.{Row, column}
use Rattle.sqlite.specs.Effect.{Database}
use Rattle.fuse_store_tables.specs.Content.{Counter, Kept}
use Rattle.guest_tables.specs.Rows.{PairRow}
use Rattle.guest_tables.specs.Content.{GuestContent, Holds}
use Rattle.guest_tables.specs.Opening.{IsFitContent}
use Rattle.guest_tables.specs.Holding.{GuestHolding, holding_in, HeldFor}

abbrev pub int_in : Value → ℤ
int_in (Int z) = z
int_in _ = pos 0

abbrev pub natural : ℤ → ℕ
natural (pos n) = n
natural _ = 0

abbrev pub blob_in : Value → List ℕ
blob_in (Blob b) = b
blob_in _ = []

abbrev pub number_in : Row → ℕ → ℕ
number_in r at = natural (int_in (column r at))

-- the number of 64 bits with the same bits
abbrev pub bits_in : Row → ℕ → ℕ
bits_in r at = cast_unsigned w64 (int_in (column r at))

abbrev pub bytes_in : Row → ℕ → List ℕ
bytes_in r at = blob_in (column r at)

-- ---- rows

abbrev pub counter_in : Row → Counter
counter_in r = record { key = number_in r 0; value = bits_in r 2 }

abbrev pub pair_in : Row → PairRow
pair_in r = record { slot = number_in r 0; key = bytes_in r 1; value = bytes_in r 2; place = number_in r 3; len = number_in r 4; sum = bits_in r 5 }

abbrev pub lot_in : Row → ℕ
lot_in r = number_in r 0

abbrev pub kept_in : Row → Kept
kept_in r = record { id = number_in r 0; lot = number_in r 2; said = record { errno = number_in r 3; body = bytes_in r 4 } }

-- ---- tables

abbrev pub content_read : Database → GuestContent
content_read d = record {
  counters = map counter_in (d.trees 0);
  pairs = map pair_in (d.trees 1);
  lots = map lot_in (d.trees 3);
  kept = map kept_in (d.trees 4);
}

abbrev pub holding_read : Database → GuestHolding
holding_read d = holding_in (content_read d)

-- ---- laws

-- what is read is what the tables hold
abbrev pub ContentsAreRead : Type 0
ContentsAreRead = (c : GuestContent) (d : Database) → Holds c d → IsFitContent c → content_read d ≡ c

-- so a database holds one thing at most
abbrev pub HoldingsAreRead : Type 0
HoldingsAreRead = (y : GuestHolding) (d : Database) → HeldFor y d → holding_read d ≡ y
