-- What was read of a range of blocks (defined by this project).
use Rattle.std.specs.Prelude.{◌≡◌, ◌≤◌, ◌<◌, ◌⊎◌, ◌+◌, ◌-◌, ◌*◌, ◌/◌, ◌==◌, ◌&&◌, ℕ, Bool, IsTrue, nat_le, nat_lt, find, length, List, Option, Some, None, option_map, IfSome}
use Rattle.std.specs.List.{Contains}
use Rattle.fuse_rows.specs.Bounds.{block_bytes}
use Rattle.fuse_data.specs.declared.extent.Extent.{Extent}
use Rattle.fuse_data.specs.Extents.{bytes_of}
use Rattle.fuse_store_tables.specs.declared.pieces.PieceRow.{PieceRow}
use Rattle.fuse_store_tables.specs.Blocks.{block_at}
use Rattle.fuse_store_tables.specs.Pieces.{Piece}
use Rattle.fuse_store_tables.specs.Ranges.{row_of}
use Rattle.fuse_store_tables.specs.Content.{Content}
use Rattle.fuse_store_tree.specs.declared.range_reads.BlockRow.{BlockRow}
use Rattle.fuse_store_tree.specs.declared.range_reads.HeldPiece.{HeldPiece}
use Rattle.fuse_store_tree.specs.Pieces.{File, piece_at}

-- ---- pieces

-- where the row says that the bytes are
abbrev pub extent_in : PieceRow → Extent
extent_in p = record { place = p.place; count = p.count; sum = p.sum }

-- the piece has the block
abbrev pub row_has : ℕ → PieceRow → Bool
row_has block p = nat_le p.first block && nat_lt (block - p.first) p.count

-- it is the piece of a node that begins last, at a block or before it
pub record BeginsLast (node block : ℕ) (ps : List Piece) (p : Piece) : Type 0 where
  pub there : Contains ps p
  pub of : p.node ≡ node
  pub begins : p.first ≤ block
  pub last : (q : Piece) → Contains ps q → q.node ≡ node → q.first ≤ block → (q ≡ p) ⊎ (q.first < p.first)

-- the row is that of this piece, if there is one
abbrev pub TellsLast : ℕ → ℕ → List Piece → Option PieceRow → Type 0
TellsLast node block ps None = (q : Piece) → Contains ps q → q.node ≡ node → q.first ≤ block → ⊥
TellsLast node block ps (Some r) = (p : Piece) × BeginsLast node block ps p × (r ≡ row_of p)

-- ---- blocks

-- the bytes of the block, where one of the rows has it
abbrev pub row_bytes : ℕ → List BlockRow → Option (List ℕ)
row_bytes block rows = option_map (λ r. r.bytes.items) (find (λ r. r.block == block) rows)

-- the rows show what the tables have of a block of a node
pub record ShowsBlock (node block : ℕ) (rows : List BlockRow) (pieces : List PieceRow) (c : Content) : Type 0 where
  pub row : row_bytes block rows ≡ option_map (λ b. b.bytes) (block_at node block c.blocks)
  pub piece : find (row_has block) pieces ≡ option_map row_of (piece_at node block c.pieces)

-- and of each block that so many bytes from a place on touch
abbrev pub ShowsRange : ℕ → ℕ → ℕ → List BlockRow → List PieceRow → Content → Type 0
ShowsRange node at len rows pieces c = (block : ℕ) → at / block_bytes ≤ block → block * block_bytes < at + len → ShowsBlock node block rows pieces c

-- the bytes are those of the piece, as far as the data file has returned what was written
pub record HoldsBytes (f : File) (h : HeldPiece) : Type 0 where
  pub long : length h.bytes.items ≡ h.piece.count * block_bytes
  pub bytes : IsTrue f.is_clean → h.bytes.items ≡ bytes_of f.bytes (extent_in h.piece)

abbrev pub HoldsAny : File → Option HeldPiece → Type 0
HoldsAny f h = IfSome h (HoldsBytes f)
