use Rattle.sqlite.specs.Held.{state}
use Rattle.fuse_store_tree.proofs.LastPieces.{none_there, row_there, row_not_there}
use Rattle.fuse_store_tree.proofs.piece_reads.find_piece.Goals as goal

pub returns-in-Ok-None-clause-value : goal.returns-in-Ok-None-clause-value
returns-in-Ok-None-clause-value g c clean file k at sound =
    none_there c.args.node c.args.block k (rw c.in-Ok-None.field-0-is at (c.in-Ok-None.ensures.value clean k at sound.0))

pub returns-then-block-piece-clause-value : goal.returns-then-block-piece-clause-value
returns-then-block-piece-clause-value g c clean file k at sound =
    row_there c.args.node c.args.block k c.in-Ok-Some.piece sound.1.own (rw c.in-Ok-Some.field-0-is at (c.in-Ok-Some.ensures.value clean k at sound.0))
    c.if-block-piece.true

pub returns-else-block-piece-clause-value : goal.returns-else-block-piece-clause-value
returns-else-block-piece-clause-value g c clean file k at sound =
    row_not_there c.args.node c.args.block k c.in-Ok-Some.piece sound.1.own (rw c.in-Ok-Some.field-0-is at (c.in-Ok-Some.ensures.value clean k at sound.0))
    c.if-block-piece.false
