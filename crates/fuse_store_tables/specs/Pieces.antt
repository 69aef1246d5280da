-- The pieces of contents, as rows of a table (defined by this project).
use Rattle.std.specs.Prelude.{◌≡◌, ◌≤◌, ◌<◌, ◌^◌, ℕ, ◌+◌, pos, Bool, ◌&&◌, List, [], ◌∷◌, map, take, fold}
use Rattle.std.specs.Ordering.{is_eq, is_ge, is_lt, nat_cmp}
use Rattle.std.specs.List.Sorted.{IsPermutation}
use Rattle.std.specs.Int.{w64, cast_signed}
use Rattle.sqlite.specs.declared.types.Value.TheVariants.{Int}
use Rattle.sqlite.specs.Order.{Row}
use Rattle.sqlite_trees.specs.Tree.{IsAscending}
use Rattle.fuse_store_tables.specs.declared.pieces.PieceRow.{PieceRow}

-- A run of blocks of a node, from the first one on; place 0 stands for zeros. The slot is the hidden rowid.
pub record Piece : Type 0 where
  pub slot : ℕ
  pub node : ℕ
  pub first : ℕ
  pub count : ℕ
  pub place : ℕ
  pub sum : ℕ

-- the digest is the signed number with the same bits
abbrev pub piece_row : Piece → Row
piece_row p =
    Int (pos p.slot) ∷ Int (pos p.node) ∷ Int (pos p.first) ∷ Int (pos p.count) ∷ Int (pos p.place) ∷ Int (cast_signed w64 p.sum) ∷ []

-- one above the last slot
abbrev pub next_piece : List Piece → ℕ
next_piece = fold (λ _ p. p.slot + 1) 1

abbrev pub new_piece : PieceRow → List Piece → Piece
new_piece x ps = record { slot = next_piece ps; node = x.node; first = x.first; count = x.count; place = x.place; sum = x.sum }

-- its numbers are of 63 bits, but for the digest
pub record FitsPiece (x : PieceRow) : Type 0 where
  pub node : x.node < 2 ^ 63
  pub first : x.first < 2 ^ 63
  pub count : x.count < 2 ^ 63
  pub place : x.place < 2 ^ 63

-- a piece of this node that begins from one block on, below another
abbrev pub begins_between : ℕ → ℕ → ℕ → Piece → Bool
begins_between node from to p = is_eq (nat_cmp p.node node) && (is_ge (nat_cmp p.first from) && is_lt (nat_cmp p.first to))

-- a piece, to one who knows its node
abbrev pub shown_piece : Piece → Row
shown_piece p = Int (pos p.first) ∷ Int (pos p.count) ∷ Int (pos p.place) ∷ Int (cast_signed w64 p.sum) ∷ []

-- the rows show these pieces in the order of their first blocks, up to a limit
pub record ShowsInOrder (limit : ℕ) (ps : List Piece) (rows : List Row) : Type 0 where
  pub ordered : List Piece
  pub same : IsPermutation ps ordered
  pub rise : IsAscending (λ (a b : Piece). a.first ≤ b.first) ordered
  pub shown : rows ≡ take limit (map shown_piece ordered)
