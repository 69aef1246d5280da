use Rattle.std.proofs.Common.{[]}
use Rattle.sqlite.specs.Held.{state}
use Rattle.fuse_store_tables.specs.Layout.{store_schema, lots}
use Rattle.fuse_store_tables.specs.inner.Dropping.{HasSchema, left_by_kept, left_by_lots}
use Rattle.fuse_store_tables.proofs.Drops.{drops, lots_text, lots_dropped}
use Rattle.fuse_store_tables.proofs.Joining.{then_as}
use Rattle.fuse_store_tables.proofs.dropping.drop_lots.Goals as goal

pub returns : goal.returns
returns g c =
    then_as (HasSchema store_schema) (HasSchema left_by_kept) (HasSchema left_by_lots) (state g.S.Store c.args.conn.now) (state g.S.Store c.drop_kept.new.conn)
    (state g.S.Store c.run.new.conn) _ c.run.result c.in_ok-drop_kept.ensures
    (drops left_by_kept 6 lots left_by_lots lots_text lots_dropped (state g.S.Store c.drop_kept.new.conn) (state g.S.Store c.run.new.conn) c.run.result
    c.run.ensures.runs c.run.ensures.survives)
