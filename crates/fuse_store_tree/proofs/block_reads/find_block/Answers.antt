use Rattle.std.proofs.Common.{ap, sym, ◌∙◌}
use Rattle.std.specs.Option.{is_some}
use Rattle.sqlite.specs.Held.{state}
use Rattle.fuse_store_tables.specs.Blocks.{block_at}
use Rattle.fuse_store_tree.specs.inner.Laws.{looked_then, looked_fails, looked_clean}
use Rattle.fuse_store_tree.specs.inner.Reading.{whole_of}
use Rattle.fuse_store_tree.proofs.Looks.{block_is, map_ok, map_err}
use Rattle.fuse_store_tree.proofs.Steps.{on_ok, on_error}
use Rattle.fuse_store_tree.proofs.Cleans.{clean_before}
use Rattle.fuse_store_tree.proofs.BlockParts.{row_stored, row_is_some, row_is_none, none_stored, piece_is_written}
use Rattle.fuse_store_tree.proofs.block_reads.find_block.Goals as goal

pub returns-in-Ok-Some-clause-value : goal.returns-in-Ok-Some-clause-value
returns-in-Ok-Some-clause-value g c clean read k at sound =
    let file = (g.C.Contents.file c.args.contents.now).bytes in
    sym (ap whole_of (row_stored file k c.args.node c.args.block c.in-Ok-Some.bytes.items
    (rw c.in-Ok-Some.field-0-is at (c.in-Ok-Some.ensures.value (block_at c.args.node c.args.block k.blocks) (block_is c.args.node c.args.block _ sound.0.blocks)
    (c.as_slice.ensures.value ∙ c.in_ok-rows.ensures.found clean k at)))))

pub returns-in-Ok-Some-clause-stored : goal.returns-in-Ok-Some-clause-stored
returns-in-Ok-Some-clause-stored g c clean k at =
    rw c.in-Ok-Some.field-0-is at (c.in-Ok-Some.ensures.found (block_at c.args.node c.args.block k.blocks) (c.as_slice.ensures.value
    ∙ c.in_ok-rows.ensures.found clean k at))

pub returns-in-Ok-Some-clause-written : goal.returns-in-Ok-Some-clause-written
returns-in-Ok-Some-clause-written g c clean file k at sound =
    sym (ap is_some (row_stored file k c.args.node c.args.block c.in-Ok-Some.bytes.items
    (rw c.in-Ok-Some.field-0-is at (c.in-Ok-Some.ensures.value (block_at c.args.node c.args.block k.blocks) (block_is c.args.node c.args.block _ sound.0.blocks)
    (c.as_slice.ensures.value ∙ c.in_ok-rows.ensures.found clean k at)))))

pub returns-in-Ok-None-clause-looks : goal.returns-in-Ok-None-clause-looks
returns-in-Ok-None-clause-looks g c =
    on_ok c.find_in_piece.result _ _ (looked_then (state g.S.Store c.args.conn.now) (state g.S.Store c.select_block.new.conn)
    (state g.S.Store c.find_in_piece.new.conn) c.in_ok-rows.ensures.looks) c.find_in_piece.ensures.looks

pub returns-in-Ok-None-clause-fails : goal.returns-in-Ok-None-clause-fails
returns-in-Ok-None-clause-fails g c =
    on_error c.find_in_piece.result _ _ (looked_fails (state g.S.Store c.args.conn.now) (state g.S.Store c.select_block.new.conn)
    (state g.S.Store c.find_in_piece.new.conn) c.in_ok-rows.ensures.looks) c.find_in_piece.ensures.fails

pub returns-in-Ok-None-clause-stored : goal.returns-in-Ok-None-clause-stored
returns-in-Ok-None-clause-stored g c clean =
    let b = state g.S.Store c.select_block.new.conn in
    let d = state g.S.Store c.find_in_piece.new.conn in
    let mid = clean_before b d c.find_in_piece.result c.find_in_piece.ensures.looks c.find_in_piece.ensures.fails clean in
    map_ok c.find_in_piece.result _ _ (λ f is k at. is
    ∙ (rw c.in-Ok-None.field-0-is at (c.in-Ok-None.ensures.found (block_at c.args.node c.args.block k.blocks) (c.as_slice.ensures.value
    ∙ c.in_ok-rows.ensures.found mid k at)))) c.find_in_piece.ensures.stored

pub returns-in-Ok-None-clause-value : goal.returns-in-Ok-None-clause-value
returns-in-Ok-None-clause-value g c clean read =
    let b = state g.S.Store c.select_block.new.conn in
    let d = state g.S.Store c.find_in_piece.new.conn in
    let mid = clean_before b d c.find_in_piece.result c.find_in_piece.ensures.looks c.find_in_piece.ensures.fails clean in
    let file = (g.C.Contents.file c.find_in_piece.new.contents).bytes in
    map_ok c.find_in_piece.result _ _ (λ f told k at sound. told k (c.in_ok-rows.ensures.looks.same mid k at) sound
    ∙ sym (ap whole_of (none_stored file k c.args.node c.args.block (rw c.in-Ok-None.field-0-is at
    (c.in-Ok-None.ensures.value (block_at c.args.node c.args.block k.blocks) (block_is c.args.node c.args.block _ sound.0.blocks) (c.as_slice.ensures.value
    ∙ c.in_ok-rows.ensures.found mid k at)))))) (c.find_in_piece.ensures.value clean read)

pub returns-in-Ok-None-clause-written : goal.returns-in-Ok-None-clause-written
returns-in-Ok-None-clause-written g c clean =
    let b = state g.S.Store c.select_block.new.conn in
    let d = state g.S.Store c.find_in_piece.new.conn in
    let mid = clean_before b d c.find_in_piece.result c.find_in_piece.ensures.looks c.find_in_piece.ensures.fails clean in
    map_ok c.find_in_piece.result _ _ (λ f told file k at sound. told file k (c.in_ok-rows.ensures.looks.same mid k at) sound
    ∙ sym (piece_is_written file k c.args.node c.args.block)
    ∙ ap is_some (sym (none_stored file k c.args.node c.args.block (rw c.in-Ok-None.field-0-is at
    (c.in-Ok-None.ensures.value (block_at c.args.node c.args.block k.blocks) (block_is c.args.node c.args.block _ sound.0.blocks) (c.as_slice.ensures.value
    ∙ c.in_ok-rows.ensures.found mid k at)))))) (c.find_in_piece.ensures.written clean)

pub returns-in-Ok-None-clause-fault : goal.returns-in-Ok-None-clause-fault
returns-in-Ok-None-clause-fault g c clean read =
    let b = state g.S.Store c.select_block.new.conn in
    let d = state g.S.Store c.find_in_piece.new.conn in
    let mid = clean_before b d c.find_in_piece.result c.find_in_piece.ensures.looks c.find_in_piece.ensures.fails clean in
    map_err c.find_in_piece.result _ _ (λ f told k at sound. told k (c.in_ok-rows.ensures.looks.same mid k at) sound) (c.find_in_piece.ensures.fault clean read)

pub returns-clause-fault : goal.returns-clause-fault
returns-clause-fault g c clean read k at sound =
    c.in-Err.ensures.fault (block_at c.args.node c.args.block k.blocks) (block_is c.args.node c.args.block _ sound.0.blocks) (c.as_slice.ensures.value
    ∙ c.in_ok-rows.ensures.found clean k at)
