use Rattle.std.proofs.Common.{[]}
use Rattle.sqlite.specs.Held.{state}
use Rattle.fuse_store_tables.specs.Layout.{store_schema, nodes}
use Rattle.fuse_store_tables.specs.inner.Dropping.{HasSchema, left_by_entries, left_by_nodes}
use Rattle.fuse_store_tables.proofs.Drops.{drops, nodes_text, nodes_dropped}
use Rattle.fuse_store_tables.proofs.Joining.{then_as}
use Rattle.fuse_store_tables.proofs.dropping.drop_nodes.Goals as goal

pub returns : goal.returns
returns g c =
    then_as (HasSchema store_schema) (HasSchema left_by_entries) (HasSchema left_by_nodes) (state g.S.Store c.args.conn.now) (state g.S.Store c.drop_entries.new.conn)
    (state g.S.Store c.run.new.conn) _ c.run.result c.in_ok-drop_entries.ensures
    (drops left_by_entries 1 nodes left_by_nodes nodes_text nodes_dropped (state g.S.Store c.drop_entries.new.conn) (state g.S.Store c.run.new.conn) c.run.result
    c.run.ensures.runs c.run.ensures.survives)
