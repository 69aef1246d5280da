use Rattle.sqlite.specs.Held.{state}
use Rattle.fuse_store_tables.specs.inner.Following.{earlier}
use Rattle.fuse_store_tree.specs.inner.Laws.{looked_then, looked_clean, looked_fails}
use Rattle.fuse_store_tree.proofs.range_reads.find_stored.Goals as goal

pub returns-in-Ok-clause-value : goal.returns-in-Ok-clause-value
returns-in-Ok-clause-value g c clean file k at sound block from low =
    let b = state g.S.Store c.find_blocks.new.conn in
    let d = state g.S.Store c.find_pieces.new.conn in
    let mid = looked_clean b d c.in-Ok.ensures.looks clean in
    record {
      row = c.in_ok-rows.ensures.value mid k at block from low;
      piece = c.in-Ok.ensures.value clean file k (c.in_ok-rows.ensures.looks.same mid k at) sound block from low;
    }

pub returns-in-Ok-clause-looks : goal.returns-in-Ok-clause-looks
returns-in-Ok-clause-looks g c =
    looked_then (state g.S.Store c.args.conn.now) (state g.S.Store c.find_blocks.new.conn) (state g.S.Store c.find_pieces.new.conn) c.in_ok-rows.ensures.looks
    c.in-Ok.ensures.looks

pub returns-in-Err-clause-fails : goal.returns-in-Err-clause-fails
returns-in-Err-clause-fails g c =
    looked_fails (state g.S.Store c.args.conn.now) (state g.S.Store c.find_blocks.new.conn) (state g.S.Store c.find_pieces.new.conn) c.in_ok-rows.ensures.looks
    c.in-Err.ensures.fails

pub returns-in-Err-clause-fault : goal.returns-in-Err-clause-fault
returns-in-Err-clause-fault g c clean file k at sound =
    let b = state g.S.Store c.find_blocks.new.conn in
    let d = state g.S.Store c.find_pieces.new.conn in
    c.in-Err.ensures.fault clean k (c.in_ok-rows.ensures.looks.same (earlier b d _ c.in-Err.ensures.fails.survives clean) k at) sound.0
