use Rattle.std.proofs.Common.{[]}
use Rattle.sqlite.specs.Held.{state}
use Rattle.fuse_store_tables.specs.Layout.{store_schema, answers}
use Rattle.fuse_store_tables.specs.inner.Dropping.{HasSchema, left_by_lots, left_by_answers}
use Rattle.fuse_store_tables.proofs.Drops.{drops, answers_text, answers_dropped}
use Rattle.fuse_store_tables.proofs.Joining.{then_as}
use Rattle.fuse_store_tables.proofs.dropping.drop_answers.Goals as goal

pub returns : goal.returns
returns g c =
    then_as (HasSchema store_schema) (HasSchema left_by_lots) (HasSchema left_by_answers) (state g.S.Store c.args.conn.now) (state g.S.Store c.drop_lots.new.conn)
    (state g.S.Store c.run.new.conn) _ c.run.result c.in_ok-drop_lots.ensures
    (drops left_by_lots 5 answers left_by_answers answers_text answers_dropped (state g.S.Store c.drop_lots.new.conn) (state g.S.Store c.run.new.conn) c.run.result
    c.run.ensures.runs c.run.ensures.survives)
