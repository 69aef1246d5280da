use Rattle.std.proofs.Common.{◌≤◌, length, sym, arith}
use Rattle.fuse_store_tree.specs.inner.Showing.{row_has}
use Rattle.fuse_store_tree.proofs.Members.{found_here, none_more, none_at_all}
use Rattle.fuse_store_tree.proofs.LastPieces.{row_from, row_to}
use Rattle.fuse_store_tree.proofs.range_reads.piece_with.Goals as goal

pub returns-then-has_block-clause-value : goal.returns-then-has_block-clause-value
returns-then-has_block-clause-value c =
    found_here (row_has c.args.block) c.args.pieces.now c.loop-piece.piece-index _ c.loop-piece-test.true c.loop-piece.invariant (sym c.if-has_block.ensures)

pub returns-then-has_block-clause-from : goal.returns-then-has_block-clause-from
returns-then-has_block-clause-from c = row_from c.args.block _ _ (sym c.if-has_block.ensures)

pub returns-then-has_block-clause-to : goal.returns-then-has_block-clause-to
returns-then-has_block-clause-to c = row_to c.args.block _ _ (sym c.if-has_block.ensures)

pub loop-piece-preserved : goal.loop-piece-preserved
loop-piece-preserved c =
    none_more (row_has c.args.block) c.args.pieces.now c.loop-piece.piece-index _ c.loop-piece-test.true c.loop-piece.invariant (sym c.if-has_block.ensures)

pub returns-clause-value : goal.returns-clause-value
returns-clause-value c =
    let all : length c.args.pieces.now ≤ c.loop-piece.piece-index = omega arith in
    none_at_all (row_has c.args.block) c.args.pieces.now c.loop-piece.piece-index all c.loop-piece.invariant
