-- The contents of files: single blocks in the tables, and pieces, whose bytes are in the data file (defined by this project: 'Pieces').
use Rattle.std.specs.Prelude.{◌≡◌, ◌≤◌, ◌<◌, ◌^◌, ◌⊎◌, ◌+◌, ◌-◌, ◌*◌, ◌/◌, ◌%◌, ◌==◌, ◌&&◌, ℕ, Bool, IsTrue, not, nat_le, nat_lt, if◌then◌else◌}
use Rattle.std.specs.Prelude.{List, [], ◌∷◌, map, filter, find, take, drop, replicate, slice_index_or, unwrap_or, Option, Some, None}
use Rattle.std.specs.Option.{is_some}
use Rattle.std.specs.List.{All, AllPairs, AllByRecursion}
use Rattle.fuse_rows.specs.Bounds.{block_bytes}
use Rattle.fuse_data.specs.declared.extent.Extent.{Extent}
use Rattle.fuse_data.specs.State.{DataState}
use Rattle.fuse_data.specs.Extents.{IsWhole, AreDisjoint, bytes_of}
use Rattle.fuse_store_tables.specs.Blocks.{Block, block_at}
use Rattle.fuse_store_tables.specs.Pieces.{Piece}
use Rattle.fuse_store_tables.specs.Content.{Content}

-- ---- the data file

-- what the tables may list of it, whether it has returned what was written so far, and its state
pub record File : Type 1 where
  pub bytes : List ℕ
  pub is_clean : Bool
  pub contents : DataState

-- only reads of the data file lie between the two; one that was once not clean stays so
pub record ReadsData (old new : DataState) : Type 0 where
  pub seen : new.seen ≡ old.seen
  pub clean : IsTrue new.is_clean → IsTrue old.is_clean
  pub usable : new.is_usable ≡ old.is_usable
  pub gaps : new.gaps ≡ old.gaps
  pub crash : (file : List ℕ) → new.may_leave file → old.may_leave file

-- and as much may be listed
pub record ReadsFile (old new : File) : Type 0 where
  pub same : new.bytes ≡ old.bytes
  pub clean : IsTrue new.is_clean → IsTrue old.is_clean
  pub contents : ReadsData old.contents new.contents

-- ---- pieces

-- at place 0 are blocks of zeros, which are in no data file
abbrev pub is_zeros : Piece → Bool
is_zeros p = p.place == 0

-- where its bytes are in the data file
abbrev pub extent_of : Piece → Extent
extent_of p = record { place = p.place; count = p.count; sum = p.sum }

-- what these pieces have of the data file
abbrev pub extents_of : List Piece → List Extent
extents_of pieces = map extent_of (filter (λ p. not (is_zeros p)) pieces)

-- the block of its file after its last one
abbrev pub end_of : Piece → ℕ
end_of p = p.first + p.count

abbrev pub has_block : ℕ → ℕ → Piece → Bool
has_block node block p = (p.node == node) && (nat_le p.first block && nat_lt block (end_of p))

-- the piece that has this block of a node
abbrev pub piece_at : ℕ → ℕ → List Piece → Option Piece
piece_at node block = find (has_block node block)

-- its bytes, in this data file
abbrev pub piece_bytes : List ℕ → Piece → List ℕ
piece_bytes file p = if is_zeros p then replicate (p.count * block_bytes) 0 else bytes_of file (extent_of p)

-- those of one of its blocks
abbrev pub block_in_piece : List ℕ → ℕ → Piece → List ℕ
block_in_piece file block p = take block_bytes (drop ((block - p.first) * block_bytes) (piece_bytes file p))

-- ---- the content of a node

-- a row of `blocks` counts over a piece
abbrev pub block_found : List ℕ → ℕ → Option Block → Option Piece → Option (List ℕ)
block_found file block (Some b) piece = Some b.bytes
block_found file block None (Some p) = Some (block_in_piece file block p)
block_found file block None None = None

-- the bytes of a block of a node, if it is written
abbrev pub stored_block : List ℕ → Content → ℕ → ℕ → Option (List ℕ)
stored_block file c node block = block_found file block (block_at node block c.blocks) (piece_at node block c.pieces)

abbrev pub is_written_in : List ℕ → Content → ℕ → ℕ → Bool
is_written_in file c node block = is_some (stored_block file c node block)

-- the byte at this place, 0 after the end
abbrev pub byte_at : List ℕ → ℕ → ℕ
byte_at bytes i = slice_index_or bytes i 0

-- the byte of a node at this place, 0 where nothing is written
abbrev pub byte_in : List ℕ → Content → ℕ → ℕ → ℕ
byte_in file c node i = byte_at (unwrap_or (stored_block file c node (i / block_bytes)) []) (i % block_bytes)

-- ---- pieces in order

-- each begins and ends before the end of its node, but for the rest of a block
abbrev pub EndsWithin : (ℕ → ℕ) → Piece → Type 0
EndsWithin ends p = (end_of p - 1) * block_bytes < ends p.node

-- the two have no block of a node in common
abbrev pub OwnApart : Piece → Piece → Type 0
OwnApart p q = p.node ≡ q.node → (end_of p ≤ q.first) ⊎ (end_of q ≤ p.first)

pub record ArePieces (file : List ℕ) (pieces : List Piece) : Type 0 where
  -- none is empty
  pub some : AllByRecursion (λ p. 1 ≤ p.count) pieces
  -- those with a place are of at most 32 blocks, and lie in the data file with the bytes that they were made for
  pub whole : All (IsWhole file) (extents_of pieces)
  -- no two share a block of the data file, nor one of a node
  pub apart : AllPairs AreDisjoint (extents_of pieces)
  pub own : AllPairs OwnApart pieces

-- ---- the move of small blocks

-- rows of `blocks` became pieces: each block has the bytes that it had, and all else is as it was
pub record Moved (file : List ℕ) (old new : Content) : Type 0 where
  pub blocks : (node block : ℕ) → stored_block file new node block ≡ stored_block file old node block
  pub others : record new { blocks = []; pieces = [] } ≡ record old { blocks = []; pieces = [] }
