-- How rows of blocks and of pieces change (defined by this project).
use Rattle.std.specs.Prelude.{◌≡◌, ◌≤◌, ◌<◌, ◌⊎◌, ◌+◌, ◌-◌, ◌==◌, ◌&&◌, ◌∷◌, ◌++◌, length, slice_index_or, ℕ, Bool, true, false, filter, not, nat_le, nat_lt, IsTrue, if◌then◌else◌, List, [], Option, Some, None}
use Rattle.std.specs.List.{AllByRecursion, Contains, list_any}
use Rattle.sqlite.specs.State.{State, HasCleanDisk}
use Rattle.fuse_data.specs.declared.extent.Extent.{Extent}
use Rattle.fuse_data.specs.Extents.{bytes_of, sum_of}
use Rattle.fuse_data.specs.Space.{IsListed}
use Rattle.fuse_store_tables.specs.Pieces.{Piece}
use Rattle.fuse_store_tables.specs.declared.pieces.PieceRow.{PieceRow}
use Rattle.fuse_store_tables.specs.declared.version.Layout.TheVariants.{Third}
use Rattle.fuse_store_tables.specs.Content.{Content, node_key, has_by, with_piece, without_pieces_between}
use Rattle.fuse_store_tables.specs.Moves.{Stays, StaysInside, Inside}
use Rattle.fuse_store_tree.specs.Pieces.{extents_of, stored_block, block_found, piece_at, block_in_piece, end_of}
use Rattle.fuse_store_tree.specs.declared.piece_cuts.Gone.{Gone}
use Rattle.fuse_store_tree.specs.inner.Reading.{IsSound}

-- the block is one of the range's, or one of those from there on
abbrev pub is_between : ℕ → ℕ → ℕ → ℕ → ℕ → Bool
is_between node from to n block = (n == node) && (nat_le from block && nat_lt block to)

abbrev pub is_from_on : ℕ → ℕ → ℕ → ℕ → Bool
is_from_on node from n block = (n == node) && not (nat_lt block from)

-- what pieces have of a block
abbrev pub piece_block : List ℕ → List Piece → ℕ → ℕ → Option (List ℕ)
piece_block file pieces node block = block_found file block None (piece_at node block pieces)

-- it is one of these, or a part of one
pub record IsPartOfOne (pieces : List Piece) (q : Piece) : Type 0 where
  pub of : Piece
  pub there : Contains pieces of
  pub node : q.node ≡ of.node
  pub begins : of.first ≤ q.first
  pub ends : end_of q ≤ end_of of

-- no piece has a block that is out, and any other block of a piece is as it was
pub record TakenOut (file : List ℕ) (is_out : ℕ → ℕ → Bool) (old new : Content) : Type 0 where
  pub blocks : (n block : ℕ) → piece_block file new.pieces n block ≡ (if is_out n block then None else piece_block file old.pieces n block)
  pub lasts : AllByRecursion (λ q. is_out q.node (end_of q - 1) ≡ false) new.pieces
  pub parts : AllByRecursion (IsPartOfOne old.pieces) new.pieces
  pub others : record new { pieces = [] } ≡ record old { pieces = [] }
  pub sound : IsSound file new

-- no piece of the node has blocks on both sides of this one's begin
abbrev pub IsCutAt : ℕ → ℕ → List Piece → Type 0
IsCutAt node block pieces = AllByRecursion (λ p. p.node ≡ node → (end_of p ≤ block) ⊎ (block ≤ p.first)) pieces

-- the tables are of version 3
abbrev pub IsThird : Content → Type 0
IsThird c = c.layout ≡ Third

pub record AreCut (node from to : ℕ) (c : Content) : Type 0 where
  pub third : IsThird c
  pub begin : IsCutAt node from c.pieces
  pub end : IsCutAt node to c.pieces

-- the block is in neither
abbrev pub no_block : ℕ → ℕ → Bool
no_block node block = false

-- the blocks of a piece stand in place of what was stored there
pub record Listed (file : List ℕ) (p : Piece) (old new : Content) : Type 0 where
  pub blocks : (n block : ℕ)
      → stored_block file new n block
      ≡ (if is_between p.node p.first (end_of p) n block then Some (block_in_piece file block p) else stored_block file old n block)
  -- the rows of these blocks go, and the pieces that are left are parts of those before
  pub rows : new.blocks ≡ filter (λ b. not (is_between p.node p.first (end_of p) b.node b.block)) old.blocks
  pub parts : AllByRecursion (IsPartOfOne (p ∷ old.pieces)) new.pieces
  pub there : list_any (has_by node_key p.node) old.nodes ≡ true
  pub others : record new { blocks = []; pieces = [] } ≡ record old { blocks = []; pieces = [] }
  pub sound : IsSound file new

-- ---- blocks of the data file

-- no piece has a block of these extents
abbrev pub AreGone : List Extent → List Piece → Type 0
AreGone gone pieces = (b : ℕ) → IsListed gone b → IsListed (extents_of pieces) b → ⊥

-- the block is one of a piece, or of an extent that is remembered
abbrev pub IsHeldIn : List Extent → List Piece → ℕ → Type 0
IsHeldIn gone pieces b = IsListed (extents_of pieces) b ⊎ IsListed gone b

-- Blocks go from pieces to the extents that are remembered, and no piece has them any more. All are remembered, unless there were more.
pub record GivesUp (was is : Gone) (old new : List Piece) : Type 0 where
  pub from : (b : ℕ) → IsHeldIn is.extents.items new b → IsHeldIn was.extents.items old b
  pub all : is.more ≡ false → (was.more ≡ false) × ((b : ℕ) → IsHeldIn was.extents.items old b → IsHeldIn is.extents.items new b)
  pub apart : AreGone was.extents.items old → AreGone is.extents.items new

-- where a piece lies in the data file, if it has any bytes there
abbrev pub extent_in : PieceRow → Extent
extent_in x = record { place = x.place; count = x.count; sum = x.sum }

abbrev pub row_extents : PieceRow → List Extent
row_extents x = if x.place == 0 then [] else extent_in x ∷ []

abbrev pub rows_extents : List PieceRow → List Extent
rows_extents [] = []
rows_extents (x ∷ xs) = row_extents x ++ rows_extents xs

-- these extents are remembered, unless there were more
pub record Remembers (extents : List Extent) (was is : Gone) : Type 0 where
  pub from : (b : ℕ) → IsListed is.extents.items b → IsListed was.extents.items b ⊎ IsListed extents b
  pub all : is.more ≡ false → (was.more ≡ false) × ((b : ℕ) → IsListed was.extents.items b ⊎ IsListed extents b → IsListed is.extents.items b)

-- ---- steps within a transaction

-- what a step makes of sound contents that are so, where the data file with these bytes is clean
pub record Relists (is_clean : Bool) (file : List ℕ) (P : Content → Type 0) (Q : Content → Content → Type 0) (old new : State) : Type 0 where
  pub stays : Stays old new
  pub within : StaysInside old new
  pub turns : IsTrue is_clean → HasCleanDisk new → (c : Content) → IsSound file c → P c → Inside c old → (k : Content) × Inside k new × Q c k

-- blocks are taken out of pieces, and those of the data file are remembered
pub record TakenOff (file : List ℕ) (is_out : ℕ → ℕ → Bool) (was is : Gone) (old new : Content) : Type 0 where
  pub out : TakenOut file is_out old new
  pub gone : GivesUp was is old.pieces new.pieces

-- of any sound content
abbrev pub IsAny : Content → Type 0
IsAny c = Unit {0}

-- the part of a piece from one of its blocks on, below another, which has this digest
abbrev pub part_in : PieceRow → ℕ → ℕ → ℕ → PieceRow
part_in x from to sum = record {
  node = x.node;
  first = from;
  count = to - from;
  place = if x.place == 0 then 0 else x.place + (from - x.first);
  sum = sum;
}

-- these are the digests of its bytes before a block and from there on, if it has any in this data file
pub record HasSums (file : List ℕ) (x : PieceRow) (block front back : ℕ) : Type 0 where
  pub before : (x.place == 0) ≡ false → front ≡ sum_of (bytes_of file (extent_in (part_in x x.first block 0)))
  pub from_on : (x.place == 0) ≡ false → back ≡ sum_of (bytes_of file (extent_in (part_in x block (x.first + x.count) 0)))

-- the piece goes, and its parts before a block and from there on come
abbrev pub with_parts : PieceRow → ℕ → ℕ → ℕ → Content → Content
with_parts x block front back c =
    with_piece (part_in x block (x.first + x.count) back) (with_piece (part_in x x.first block front) (without_pieces_between x.node x.first (x.first + 1) c))

-- ---- slices

-- the last of these pieces begins and ends within the range
abbrev pub EndsWithin : List PieceRow → ℕ → ℕ → Type 0
EndsWithin xs from to = (d : PieceRow) → 1 ≤ length xs → let x = slice_index_or xs (length xs - 1) d in (from < x.first + x.count) × (x.first + x.count ≤ to)

-- where there may be more pieces, a slice ends with its last one
pub record IsEndOf (xs : List PieceRow) (to next : ℕ) : Type 0 where
  pub few : length xs < 1024 → next ≡ to
  pub full : 1024 ≤ length xs → (d : PieceRow) → let x = slice_index_or xs (length xs - 1) d in next ≡ x.first + x.count

-- no piece reaches over this block's begin then, and nothing else changes
pub record Split (file : List ℕ) (node block : ℕ) (old new : Content) : Type 0 where
  pub same : TakenOut file no_block old new
  pub listed : (b : ℕ) → (IsListed (extents_of new.pieces) b → IsListed (extents_of old.pieces) b) × (IsListed (extents_of old.pieces) b → IsListed (extents_of new.pieces) b)
  pub cut : IsCutAt node block new.pieces

-- the blocks of the data file that are given up, over any step
pub record GivenUp (file : List ℕ) (was is : Gone) (old new : Content) : Type 0 where
  pub sound : IsSound file new
  pub gone : GivesUp was is old.pieces new.pieces
