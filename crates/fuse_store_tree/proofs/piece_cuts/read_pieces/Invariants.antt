use Rattle.std.proofs.Common.{◌≡◌, ◌<◌, ◌^◌, List, map, take}
use Rattle.std.specs.List.{AllByRecursion}
use Rattle.fuse_store_tables.specs.Pieces.{Piece, shown_piece}
use Rattle.fuse_store_tables.specs.Ranges.{row_of}
use Rattle.fuse_store_tree.proofs.piece_cuts.read_pieces.Given as goal

abbrev pub invariant-loop-row : goal.invariant-loop-row
invariant-loop-row l = (ps : List Piece) → AllByRecursion (λ (p : Piece). (p.node ≡ l.node) × (p.sum < 2 ^ 64)) ps → l.rows ≡ map shown_piece ps
    → l.pieces.items ≡ map row_of (take l.row-index ps)
