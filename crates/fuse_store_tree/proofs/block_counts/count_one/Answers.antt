use Rattle.std.proofs.Common.{◌∙◌}
use Rattle.sqlite.specs.Held.{state}
use Rattle.fuse_store_tables.specs.Blocks.{block_at}
use Rattle.fuse_store_tables.specs.inner.Following.{earlier}
use Rattle.fuse_store_tree.specs.inner.Laws.{looked_then, looked_fails, looked_clean}
use Rattle.fuse_store_tree.proofs.BlockParts.{row_counts, piece_counts, none_counts}
use Rattle.fuse_store_tree.proofs.block_counts.count_one.Goals as goal

pub returns-then-is_there-clause-value : goal.returns-then-is_there-clause-value
returns-then-is_there-clause-value g c clean file k at sound =
    row_counts file k c.args.node c.args.block (c.if-is_there.ensures (block_at c.args.node c.args.block k.blocks) (c.as_slice.ensures.value
    ∙ c.in_ok-rows.ensures.found clean k at))

pub returns-in-Ok-Some-clause-value : goal.returns-in-Ok-Some-clause-value
returns-in-Ok-Some-clause-value g c clean file k at sound =
    let mid = looked_clean (state g.S.Store c.select_block.new.conn) (state g.S.Store c.find_piece.new.conn) c.in-Ok-Some.ensures.looks clean in
    piece_counts file k c.args.node c.args.block _ (c.if-is_there.ensures (block_at c.args.node c.args.block k.blocks) (c.as_slice.ensures.value
    ∙ c.in_ok-rows.ensures.found mid k at))
    (rw c.in-Ok-Some.field-0-is at (c.in-Ok-Some.ensures.value clean file k (c.in_ok-rows.ensures.looks.same mid k at) sound))

pub returns-in-Ok-None-clause-value : goal.returns-in-Ok-None-clause-value
returns-in-Ok-None-clause-value g c clean file k at sound =
    let mid = looked_clean (state g.S.Store c.select_block.new.conn) (state g.S.Store c.find_piece.new.conn) c.in-Ok-None.ensures.looks clean in
    none_counts file k c.args.node c.args.block (c.if-is_there.ensures (block_at c.args.node c.args.block k.blocks) (c.as_slice.ensures.value
    ∙ c.in_ok-rows.ensures.found mid k at))
    (rw c.in-Ok-None.field-0-is at (c.in-Ok-None.ensures.value clean file k (c.in_ok-rows.ensures.looks.same mid k at) sound))

pub returns-in-Ok-Some-clause-looks : goal.returns-in-Ok-Some-clause-looks
returns-in-Ok-Some-clause-looks g c =
    looked_then (state g.S.Store c.args.conn.now) (state g.S.Store c.select_block.new.conn) (state g.S.Store c.find_piece.new.conn) c.in_ok-rows.ensures.looks
    c.in-Ok-Some.ensures.looks

pub returns-in-Ok-None-clause-looks : goal.returns-in-Ok-None-clause-looks
returns-in-Ok-None-clause-looks g c =
    looked_then (state g.S.Store c.args.conn.now) (state g.S.Store c.select_block.new.conn) (state g.S.Store c.find_piece.new.conn) c.in_ok-rows.ensures.looks
    c.in-Ok-None.ensures.looks

pub returns-clause-fails : goal.returns-clause-fails
returns-clause-fails g c =
    looked_fails (state g.S.Store c.args.conn.now) (state g.S.Store c.select_block.new.conn) (state g.S.Store c.find_piece.new.conn) c.in_ok-rows.ensures.looks
    c.in-Err.ensures.fails

pub returns-clause-fault : goal.returns-clause-fault
returns-clause-fault g c clean file k at sound =
    let b = state g.S.Store c.select_block.new.conn in
    let d = state g.S.Store c.find_piece.new.conn in
    c.in-Err.ensures.fault clean k (c.in_ok-rows.ensures.looks.same (earlier b d _ c.in-Err.ensures.fails.survives clean) k at) sound.0
