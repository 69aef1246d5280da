use Rattle.std.proofs.Common.{[]}
use Rattle.sqlite.specs.Held.{state}
use Rattle.fuse_store_tables.specs.Layout.{store_schema, blocks}
use Rattle.fuse_store_tables.specs.inner.Dropping.{HasSchema, left_by_handles, left_by_blocks}
use Rattle.fuse_store_tables.proofs.Drops.{drops, blocks_text, blocks_dropped}
use Rattle.fuse_store_tables.proofs.Joining.{then_as}
use Rattle.fuse_store_tables.proofs.dropping.drop_blocks.Goals as goal

pub returns : goal.returns
returns g c =
    then_as (HasSchema store_schema) (HasSchema left_by_handles) (HasSchema left_by_blocks) (state g.S.Store c.args.conn.now) (state g.S.Store c.drop_handles.new.conn)
    (state g.S.Store c.run.new.conn) _ c.run.result c.in_ok-drop_handles.ensures
    (drops left_by_handles 3 blocks left_by_blocks blocks_text blocks_dropped (state g.S.Store c.drop_handles.new.conn) (state g.S.Store c.run.new.conn) c.run.result
    c.run.ensures.runs c.run.ensures.survives)
