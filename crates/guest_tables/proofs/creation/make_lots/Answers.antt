use Rattle.sqlite.specs.Held.{state}
use Rattle.fuse_store_tables.specs.Layout.{no_schema}
use Rattle.fuse_store_tables.specs.Making.{IsBare}
use Rattle.fuse_store_tables.specs.inner.Following.{then_as}
use Rattle.guest_tables.proofs.any_schema.SchemaLemmas.{creates, lots_text}
use Rattle.guest_tables.specs.Layout.{with_pairs, with_lots, lot_table}
use Rattle.guest_tables.proofs.MakingLemmas.{lots_made}
use Rattle.guest_tables.proofs.creation.make_lots.Goals as goal

pub returns : goal.returns
returns g c =
    then_as (IsBare no_schema) (IsBare with_pairs) (IsBare with_lots) (state g.S.Store c.args.conn.now) (state g.S.Store c.make_pairs.new.conn)
    (state g.S.Store c.run.new.conn) _ c.run.result c.in_ok-make_pairs.ensures
    (creates with_pairs lot_table lots_text lots_made (state g.S.Store c.make_pairs.new.conn) (state g.S.Store c.run.new.conn) c.run.result
    c.run.ensures.runs c.run.ensures.survives)
