-- A range of a file, cut at the ends of blocks (defined by this project).
use Rattle.std.specs.Prelude.{◌≡◌, ◌≤◌, ◌<◌, ◌+◌, ◌-◌, ◌*◌, ◌/◌, ◌%◌, ℕ, zero, suc, min, List, [], ◌∷◌}
use Rattle.fuse_rows.specs.Bounds.{block_bytes}
use Rattle.fuse_rows.specs.declared.pieces.Piece.{Piece}

-- a piece of the range that ends here: it begins at this place and lies in one block, all that the block has of the range
pub record IsPiece (at end : ℕ) (p : Piece) : Type 0 where
  pub begins : p.block * block_bytes + p.start ≡ at
  pub from_one : 1 ≤ p.len
  pub within : p.start + p.len ≤ block_bytes
  pub longest : p.start + p.len < block_bytes → at + p.len ≡ end

-- the pieces follow one another from this place on, up to the end
abbrev pub Covers : List Piece → ℕ → ℕ → Type 0
Covers [] at end = at ≡ end
Covers (p ∷ ps) at end = IsPiece at end p × Covers ps (at + p.len) end

-- the first piece of so many bytes
abbrev pub first_len : ℕ → ℕ → ℕ
first_len at len = min len (block_bytes - at % block_bytes)

abbrev pub first_piece : ℕ → ℕ → Piece
first_piece at len = record { block = at / block_bytes; start = at % block_bytes; len = first_len at len }

-- at most n pieces
abbrev pub pieces_by : ℕ → ℕ → ℕ → List Piece
pieces_by zero at len = []
pieces_by (suc n) at zero = []
pieces_by (suc n) at (suc m) = first_piece at (suc m) ∷ pieces_by n (at + first_len at (suc m)) (suc m - first_len at (suc m))

-- the pieces that an iterator has left
unfoldable pub pieces_of : ℕ → ℕ → List Piece
pieces_of at len = pieces_by len at len
