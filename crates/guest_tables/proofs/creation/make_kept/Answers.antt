use Rattle.sqlite.specs.Held.{state}
use Rattle.fuse_store_tables.specs.Layout.{no_schema}
use Rattle.fuse_store_tables.specs.Making.{IsBare}
use Rattle.fuse_store_tables.specs.inner.Following.{then_as}
use Rattle.guest_tables.proofs.any_schema.SchemaLemmas.{creates, kept_text}
use Rattle.guest_tables.specs.Layout.{with_lots, guest_schema, kept_table}
use Rattle.guest_tables.proofs.MakingLemmas.{kept_made}
use Rattle.guest_tables.proofs.creation.make_kept.Goals as goal

pub returns : goal.returns
returns g c =
    then_as (IsBare no_schema) (IsBare with_lots) (IsBare guest_schema) (state g.S.Store c.args.conn.now) (state g.S.Store c.make_lots.new.conn)
    (state g.S.Store c.run.new.conn) _ c.run.result c.in_ok-make_lots.ensures
    (creates with_lots kept_table kept_text kept_made (state g.S.Store c.make_lots.new.conn) (state g.S.Store c.run.new.conn) c.run.result
    c.run.ensures.runs c.run.ensures.survives)
