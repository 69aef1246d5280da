use Rattle.std.proofs.Common.{◌≡◌, find, take, None}
use Rattle.fuse_store_tree.specs.inner.Showing.{row_has}
use Rattle.fuse_store_tree.proofs.range_reads.piece_with.Given as goal

abbrev pub invariant-loop-piece : goal.invariant-loop-piece
invariant-loop-piece l = find (row_has l.block) (take l.piece-index l.pieces) ≡ None
