use Rattle.std.specs.Option.{is_some}
use Rattle.sqlite.specs.Held.{state}
use Rattle.fuse_store_tables.specs.Blocks.{block_at}
use Rattle.fuse_store_tables.specs.Content.{with_block, set_block, put_block}
use Rattle.fuse_store_tables.proofs.Joining.{put_there, put_anew}
use Rattle.fuse_store_tables.proofs.BlockChanges.{put_over, put_new}
use Rattle.fuse_store_tables.proofs.blocks.write_block.Goals as goal

pub returns-in-Ok-true : goal.returns-in-Ok-true
returns-in-Ok-true g c =
    let node = c.args.node in
    let block = c.args.block in
    let bytes = c.args.bytes.now in
    put_there (set_block node block bytes) (with_block node block bytes) (put_block node block bytes) (λ k. is_some (block_at node block k.blocks))
    (state g.S.Store c.args.conn.now) (state g.S.Store c.update_block.new.conn) c.in-Ok-true.field-0 c.in-Ok-true.ensures.made c.in-Ok-true.ensures.found
    tt c.in-Ok-true.field-0-test (λ k at is. put_over node block bytes k is)

pub returns-in-Ok-false : goal.returns-in-Ok-false
returns-in-Ok-false g c =
    let node = c.args.node in
    let block = c.args.block in
    let bytes = c.args.bytes.now in
    put_anew (set_block node block bytes) (with_block node block bytes) (put_block node block bytes) (λ k. is_some (block_at node block k.blocks))
    (state g.S.Store c.args.conn.now) (state g.S.Store c.update_block.new.conn) c.in-Ok-false.field-0 c.in-Ok-false.ensures.made
    c.in-Ok-false.ensures.found (state g.S.Store c.insert_block.new.conn) c.insert_block.result c.in-Ok-false.field-0-test c.insert_block.ensures
    (λ k at is. put_new node block bytes k is)
