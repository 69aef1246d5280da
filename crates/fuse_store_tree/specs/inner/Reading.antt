-- How rows are read from the tables (defined by this project).
use Rattle.std.specs.Prelude.{◌≡◌, ◌++◌, ◌==◌, if◌then◌else◌, ◌+◌, replicate, zero, suc, false, Bool, nat_lt, min, filter, length, ◌-◌, ℕ, List, [], ◌∷◌, Option, Some, None, IfSome, slice_index_or}
use Rattle.sqlite.specs.Order.{Row}
use Rattle.fuse_init.specs.declared.settings.Settings.{Settings}
use Rattle.fuse_rows.specs.Bounds.{block_bytes}
use Rattle.fuse_rows.specs.declared.rows.NodeRow.{NodeRow}
use Rattle.fuse_rows.specs.declared.rows.EntryRow.{EntryRow}
use Rattle.fuse_rows.specs.declared.rows.Child.{Child}
use Rattle.fuse_rows.specs.declared.rows.Counters.{Counters as CountersRow}
use Rattle.fuse_rows.specs.declared.rows.Room.{Room}
use Rattle.fuse_store_tables.specs.declared.version.Layout.{Layout}
use Rattle.fuse_store_tables.specs.declared.version.Layout.TheVariants.{Second, Third}
use Rattle.fuse_rows.specs.Blocks.{numbers_from}
use Rattle.fuse_store_tables.specs.Content.{Content, Counter, at_by, node_key, columns_of, shown_entry}
use Rattle.fuse_store_tree.specs.Fits.{Fits, KeepsNode}
use Rattle.fuse_data.specs.Extents.{IsWhole}
use Rattle.fuse_store_tables.specs.Pieces.{Piece}
use Rattle.fuse_store_tree.specs.Pieces.{ArePieces, is_zeros, extent_of, byte_in, is_written_in}
use Rattle.fuse_store_tree.specs.Store.{DescribesAs, Store, counter, bodies_of}

-- the value at this place, and the counters and the settings of these values
abbrev pub value_of : List Counter → ℕ → ℕ
value_of cs at = (slice_index_or cs at (counter 0 0)).value

-- a store with a room has 15
abbrev pub room_of_counters : List Counter → Option Room
room_of_counters cs = if length cs == 15 then Some (record { capacity = value_of cs 12; used = value_of cs 13 }) else None

abbrev pub counted_in : List Counter → CountersRow
counted_in cs = record {
  next_node = value_of cs 1;
  next_fh = value_of cs 2;
  next_cookie = value_of cs 3;
  nodes = value_of cs 4;
  handles = value_of cs 5;
  room = room_of_counters cs;
}

abbrev pub agreed_in : List Counter → Option Settings
agreed_in cs = if value_of cs 6 == 0 then None else Some (record { minor = value_of cs 7; max_readahead = value_of cs 8; flags = record { 0 = value_of cs 9 } })

-- the columns of a node, which stand before those of an entry
abbrev pub node_width : Layout → ℕ
node_width Second = 13
node_width Third = 16

-- an entry of the tables beside the row of its node
abbrev pub child_in : Content → EntryRow → Child
child_in c e = record { entry = e; row = at_by node_key e.child c.nodes }

-- as a row that is read from tables of this layout shows it
abbrev pub shown_beside : Layout → Child → Row
shown_beside layout x = columns_of layout x.row ++ shown_entry x.entry

-- an entry of this directory whose node is read back as it was written
abbrev pub IsReadBack : Layout → ℕ → Child → Type 0
IsReadBack layout dir x = (x.entry.dir ≡ dir) × IfSome x.row (λ n. KeepsNode layout n × (n.node ≡ x.entry.child))

-- so many values of a function from a place on
abbrev pub range_of : (ℕ → ℕ) → ℕ → ℕ → List ℕ
range_of f at zero = []
range_of f at (suc n) = f at ∷ range_of f (at + 1) n

-- the bytes of the piece are in this data file, if it has any there
abbrev pub IsInFile : List ℕ → Piece → Type 0
IsInFile file p = is_zeros p ≡ false → IsWhole file (extent_of p)

-- contents that are read back as they were written, and whose pieces are in this data file
abbrev pub IsSound : List ℕ → Content → Type 0
IsSound file c = Fits c × ArePieces file c.pieces

-- the bytes of a block, zeros where it isn't written
abbrev pub whole_of : Option (List ℕ) → List ℕ
whole_of None = replicate block_bytes 0
whole_of (Some bytes) = bytes

-- bytes of a node of this size, as far as that goes
abbrev pub bytes_within : List ℕ → ℕ → Content → ℕ → ℕ → ℕ → List ℕ
bytes_within file size c node offset len = if nat_lt offset size then range_of (byte_in file c node) offset (min len (size - offset)) else []

-- those of a node with this row
abbrev pub bytes_told : List ℕ → Option NodeRow → Content → ℕ → ℕ → ℕ → List ℕ
bytes_told file None c node offset len = []
bytes_told file (Some n) c node offset len = bytes_within file n.size c node offset len

abbrev pub one_if : Bool → ℕ
one_if b = if b then 1 else 0

-- how many blocks of a node are written, from one on and below another
abbrev pub counted_between : List ℕ → Content → ℕ → ℕ → ℕ → ℕ
counted_between file c node from to = length (filter (is_written_in file c node) (numbers_from from (to - from)))

-- the blocks describe the bytes of each node, and zeros after them, and none begins after them; the size is in the row
abbrev pub Describes : Store → List ℕ → Content → Type 0
Describes x = DescribesAs x (bodies_of x.rows)
