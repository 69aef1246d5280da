use Rattle.std.proofs.Common.{[]}
use Rattle.sqlite.specs.Held.{state}
use Rattle.fuse_store_tables.specs.Layout.{store_schema, entries}
use Rattle.fuse_store_tables.specs.inner.Dropping.{HasSchema, left_by_blocks, left_by_entries}
use Rattle.fuse_store_tables.proofs.Drops.{drops, entries_text, entries_dropped}
use Rattle.fuse_store_tables.proofs.Joining.{then_as}
use Rattle.fuse_store_tables.proofs.dropping.drop_entries.Goals as goal

pub returns : goal.returns
returns g c =
    then_as (HasSchema store_schema) (HasSchema left_by_blocks) (HasSchema left_by_entries) (state g.S.Store c.args.conn.now) (state g.S.Store c.drop_blocks.new.conn)
    (state g.S.Store c.run.new.conn) _ c.run.result c.in_ok-drop_blocks.ensures
    (drops left_by_blocks 2 entries left_by_entries entries_text entries_dropped (state g.S.Store c.drop_blocks.new.conn) (state g.S.Store c.run.new.conn) c.run.result
    c.run.ensures.runs c.run.ensures.survives)
