use Rattle.std.proofs.Common.{[]}
use Rattle.sqlite.specs.Held.{state}
use Rattle.fuse_store_tables.specs.Layout.{no_schema, store_schema, meta}
use Rattle.fuse_store_tables.specs.Making.{IsBare}
use Rattle.fuse_store_tables.specs.inner.Dropping.{HasSchema, left_by_nodes}
use Rattle.fuse_store_tables.proofs.Drops.{bares, meta_text, meta_dropped}
use Rattle.fuse_store_tables.proofs.Joining.{then_as}
use Rattle.fuse_store_tables.proofs.dropping.drop_all.Goals as goal

pub returns : goal.returns
returns g c =
    then_as (HasSchema store_schema) (HasSchema left_by_nodes) (IsBare no_schema) (state g.S.Store c.args.conn.now) (state g.S.Store c.drop_nodes.new.conn)
    (state g.S.Store c.run.new.conn) _ c.run.result c.in_ok-drop_nodes.ensures
    (bares left_by_nodes 0 meta meta_text meta_dropped (state g.S.Store c.drop_nodes.new.conn) (state g.S.Store c.run.new.conn) c.run.result
    c.run.ensures.runs c.run.ensures.survives)
