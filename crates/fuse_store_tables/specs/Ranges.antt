-- The blocks and pieces of a node by their numbers (defined by this project).
use Rattle.std.specs.Prelude.{◌≡◌, ◌<◌, ◌⊎◌, ℕ, pos, Bool, not, ◌&&◌, List, [], ◌∷◌, map, take, filter, Contains, Option, Some, None}
use Rattle.std.specs.Ordering.{is_eq, is_ge, is_le, is_lt, nat_cmp}
use Rattle.std.specs.List.{AllByRecursion}
use Rattle.std.specs.List.Sorted.{IsPermutation}
use Rattle.sqlite.specs.declared.types.Value.TheVariants.{Int, Blob}
use Rattle.sqlite.specs.Order.{Row}
use Rattle.sqlite_trees.specs.Tree.{IsAscending}
use Rattle.fuse_store_tables.specs.declared.version.Layout.{Layout}
use Rattle.fuse_store_tables.specs.declared.version.Layout.TheVariants.{Second, Third}
use Rattle.fuse_store_tables.specs.declared.pieces.PieceRow.{PieceRow}
use Rattle.fuse_store_tables.specs.Blocks.{Block, block_at}
use Rattle.fuse_store_tables.specs.Pieces.{Piece, shown_piece}
use Rattle.fuse_store_tables.specs.Content.{Content}

-- ---- blocks

-- a block of this node from one number on, below another
abbrev pub is_between : ℕ → ℕ → ℕ → Block → Bool
is_between node from to b = is_eq (nat_cmp b.node node) && (is_ge (nat_cmp b.block from) && is_lt (nat_cmp b.block to))

abbrev pub without_blocks_between : ℕ → ℕ → ℕ → Content → Content
without_blocks_between node from to c = record c { blocks = filter (λ b. not (is_between node from to b)) c.blocks }

-- a block, to one who knows its node
abbrev pub numbered_block : Block → Row
numbered_block b = Int (pos b.block) ∷ Blob b.bytes ∷ []

-- the rows show these blocks, each of another number, in the order of their numbers, up to a limit
pub record ShowsBlocks (limit : ℕ) (bs : List Block) (rows : List Row) : Type 0 where
  pub ordered : List Block
  pub same : IsPermutation bs ordered
  pub rise : IsAscending (λ (a b : Block). a.block < b.block) ordered
  pub found : (node block : ℕ) → block_at node block ordered ≡ block_at node block bs
  pub shown : rows ≡ take limit (map numbered_block ordered)

-- ---- pieces

abbrev pub pieces_in : Layout → List Piece → List Piece
pieces_in Second ps = []
pieces_in Third ps = ps

-- those that the tables hold: version 2 has none
abbrev pub held_pieces : Content → List Piece
held_pieces c = pieces_in c.layout c.pieces

-- a piece of this node that begins at a block or before it
abbrev pub begins_by : ℕ → ℕ → Piece → Bool
begins_by node block p = is_eq (nat_cmp p.node node) && is_le (nat_cmp p.first block)

-- it is one of these, and each other one begins before it
pub record IsLast (p : Piece) (ps : List Piece) : Type 0 where
  pub there : Contains ps p
  pub last : AllByRecursion (λ (q : Piece). (q ≡ p) ⊎ (q.first < p.first)) ps

-- the row shows the piece that begins last of these
abbrev pub ShowsLast : List Piece → Option Row → Type 0
ShowsLast ps None = ps ≡ []
ShowsLast ps (Some row) = (p : Piece) × IsLast p ps × (row ≡ shown_piece p)

-- without its slot
abbrev pub row_of : Piece → PieceRow
row_of p = record { node = p.node; first = p.first; count = p.count; place = p.place; sum = p.sum }
