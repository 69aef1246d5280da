-- A store as the tables and the data file describe it (defined by this project): the rows of a tree, and the records in their lots.
use Rattle.std.specs.Prelude.{◌≡◌, ◌<◌, ◌^◌, ◌*◌, ◌==◌, ℕ, Bool, true, length}
use Rattle.std.specs.Prelude.{List, [], ◌∷◌, map, fold, option_map, Option, Some, None, IsSome, IfSome}
use Rattle.std.specs.List.{AllByRecursion, list_any}
use Rattle.sqlite.specs.Effect.{Database}
use Rattle.fuse_init.specs.declared.settings.Settings.{Settings}
use Rattle.fuse_rows.specs.Bounds.{block_bytes}
use Rattle.fuse_rows.specs.declared.rows.Counters.{Counters as CountersRow}
use Rattle.fuse_rows.specs.declared.rows.Room.{Room}
use Rattle.fuse_rows.specs.declared.rows.Full.{Full}
use Rattle.fuse_rows.specs.Rows.{Rows, full_at, content_of}
use Rattle.fuse_keeper.specs.Stands.{Records}
use Rattle.fuse_data.specs.Header.{HasHeader}
use Rattle.fuse_store_tables.specs.declared.version.Layout.{Layout}
use Rattle.fuse_store_tables.specs.declared.version.Layout.TheVariants.{Second, Third}
use Rattle.fuse_store_tables.specs.Layout.{version_of}
use Rattle.fuse_store_tables.specs.Blocks.{Block}
use Rattle.fuse_store_tables.specs.Pieces.{Piece}
use Rattle.fuse_store_tables.specs.Content.{Content, Counter, Kept, Holds, put_by, at_by, has_by, node_key, cookie_of, fh_of, kept_key}
use Rattle.fuse_store_tree.specs.Pieces.{byte_at, byte_in, is_written_in, EndsWithin, ArePieces}
use Rattle.fuse_store_tree.specs.Fits.{Fits}

-- the records in rising order of their ids
pub record Store : Type 0 where
  pub rows : Rows
  pub kept : List Kept
  pub lots : List ℕ
  pub next_lot : ℕ

-- the record of each id
abbrev pub records_of : List Kept → Records
records_of kept id = option_map (λ k. k.said) (at_by kept_key id kept)

-- put one after the other into the order of their keys
abbrev pub in_order : {X : Type 0} → (X → ℕ) → List X → List X
in_order key xs = fold (λ all x. put_by key x all) [] xs

abbrev pub counter : ℕ → ℕ → Counter
counter key value = record { key = key; value = value }

abbrev pub is_there : Option Settings → ℕ
is_there None = 0
is_there (Some s) = 1

abbrev pub minor_of : Option Settings → ℕ
minor_of None = 0
minor_of (Some s) = s.minor

abbrev pub readahead_of : Option Settings → ℕ
readahead_of None = 0
readahead_of (Some s) = s.max_readahead

abbrev pub flags_of : Option Settings → ℕ
flags_of None = 0
flags_of (Some s) = s.flags.0

-- a store with a room is of version 3
abbrev pub layout_for : Option Room → Layout
layout_for None = Second
layout_for (Some r) = Third

-- and has four entries more: the number of its profile, its capacity, what is in use of it, and the store's number
abbrev pub counters_of_room : Option Room → ℕ → List Counter
counters_of_room None number = []
counters_of_room (Some r) number = counter 12 2 ∷ counter 13 r.capacity ∷ counter 14 r.used ∷ counter 15 number ∷ []

abbrev pub meta_rows_of : CountersRow → Option Settings → ℕ → ℕ → List Counter
meta_rows_of c s lot number =
    counter 1 (version_of (layout_for c.room)) ∷ counter 2 c.next_node ∷ counter 3 c.next_fh ∷ counter 4 c.next_cookie ∷ counter 5 c.nodes
    ∷ counter 6 c.handles ∷ counter 7 (is_there s)
    ∷ counter 8 (minor_of s) ∷ counter 9 (readahead_of s)
    ∷ counter 10 (flags_of s) ∷ counter 11 lot ∷ counters_of_room c.room number

-- the settings' numbers are those of their types
pub record FitsSettings (s : Option Settings) : Type 0 where
  pub minor : minor_of s < 2 ^ 32
  pub readahead : readahead_of s < 2 ^ 32
  pub flags : flags_of s < 2 ^ 63

-- the bytes of each node, and zeros after them
abbrev pub rows_bytes : Rows → ℕ → ℕ → ℕ
rows_bytes rows node i = byte_at (content_of (full_at rows node)) i

-- the place where the bytes of each node end
abbrev pub rows_ends : Rows → ℕ → ℕ
rows_ends rows node = length (content_of (full_at rows node))

-- the block is among these
abbrev pub is_among : List ℕ → ℕ → Bool
is_among blocks block = list_any (λ b. b == block) blocks

abbrev pub blocks_counted : Option Full → Option (List ℕ)
blocks_counted None = None
blocks_counted (Some f) = f.content.blocks

-- which blocks of each node are written, where they are counted
abbrev pub rows_written : Rows → ℕ → Option (ℕ → Bool)
rows_written rows node = option_map is_among (blocks_counted (full_at rows node))

-- each block begins before the end of its node
abbrev pub AreWithin : (ℕ → ℕ) → List Block → Type 0
AreWithin ends blocks = AllByRecursion (λ b. b.block * block_bytes < ends b.node) blocks

abbrev pub ArePiecesWithin : (ℕ → ℕ) → List Piece → Type 0
ArePiecesWithin ends pieces = AllByRecursion (EndsWithin ends) pieces

-- the bytes of each node, where they end, and which blocks are written, where they are counted
pub record Bodies : Type 0 where
  pub byte : ℕ → ℕ → ℕ
  pub ends : ℕ → ℕ
  pub written : ℕ → Option (ℕ → Bool)

abbrev pub bodies_of : Rows → Bodies
bodies_of rows = record { byte = rows_bytes rows; ends = rows_ends rows; written = rows_written rows }

-- where the blocks are counted, this says whether one is written
abbrev pub IsWrittenAs : Bool → Option (ℕ → Bool) → ℕ → Type 0
IsWrittenAs told written block = IfSome written (λ p. told ≡ p block)

-- the data file is that of the store with this number, which is of 63 bits
abbrev pub HasNumber : ℕ → List ℕ → Type 0
HasNumber number file = HasHeader number file × (number < 2 ^ 63)

-- the tables and this data file describe these rows, and these bytes and written blocks of each node
pub record DescribesAs (x : Store) (bodies : Bodies) (file : List ℕ) (c : Content) : Type 0 where
  -- the number of the store, which the data file has too
  pub number : ℕ
  pub layout : c.layout ≡ layout_for x.rows.counters.room
  pub counters : c.counters ≡ meta_rows_of x.rows.counters x.rows.settings x.next_lot number
  pub nodes : c.nodes ≡ in_order node_key (map (λ f. f.row) x.rows.nodes)
  pub entries : c.entries ≡ in_order cookie_of x.rows.entries
  pub handles : c.handles ≡ in_order fh_of x.rows.handles
  pub answers : c.answers ≡ []
  pub lots : c.lots ≡ x.lots
  pub kept : c.kept ≡ x.kept
  pub attributes : c.attributes ≡ []
  pub bytes : (node i : ℕ) → byte_in file c node i ≡ bodies.byte node i
  pub within : AreWithin bodies.ends c.blocks
  pub written : (node block : ℕ) → IsWrittenAs (is_written_in file c node block) (bodies.written node) block
  pub pieces_within : ArePiecesWithin bodies.ends c.pieces
  pub pieces : ArePieces file c.pieces
  -- the node of each is there
  pub owned : AllByRecursion (λ p. list_any (has_by node_key p.node) c.nodes ≡ true) c.pieces
  pub header : IsSome x.rows.counters.room → HasNumber number file
  pub settings : FitsSettings x.rows.settings
  pub fits : Fits c

-- a database whose tables describe this over this data file
abbrev pub HeldAs : List ℕ → Store × Bodies → Database → Type 0
HeldAs file p d = (c : Content) × Holds c d × DescribesAs p.0 p.1 file c

abbrev pub Held : List ℕ → Store → Database → Type 0
Held file x = HeldAs file (x, bodies_of x.rows)
