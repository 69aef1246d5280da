use Rattle.std.proofs.Common.{[]}
use Rattle.sqlite.specs.Held.{state}
use Rattle.fuse_store_tables.specs.Layout.{store_schema, handles}
use Rattle.fuse_store_tables.specs.inner.Dropping.{HasSchema, left_by_answers, left_by_handles}
use Rattle.fuse_store_tables.proofs.Drops.{drops, handles_text, handles_dropped}
use Rattle.fuse_store_tables.proofs.Joining.{then_as}
use Rattle.fuse_store_tables.proofs.dropping.drop_handles.Goals as goal

pub returns : goal.returns
returns g c =
    then_as (HasSchema store_schema) (HasSchema left_by_answers) (HasSchema left_by_handles) (state g.S.Store c.args.conn.now) (state g.S.Store c.drop_answers.new.conn)
    (state g.S.Store c.run.new.conn) _ c.run.result c.in_ok-drop_answers.ensures
    (drops left_by_answers 4 handles left_by_handles handles_text handles_dropped (state g.S.Store c.drop_answers.new.conn) (state g.S.Store c.run.new.conn) c.run.result
    c.run.ensures.runs c.run.ensures.survives)
