use Rattle.sqlite.specs.Held.{state}
use Rattle.fuse_store_tables.specs.Layout.{no_schema, with_meta}
use Rattle.fuse_store_tables.specs.Making.{IsBare}
use Rattle.fuse_store_tables.specs.inner.Following.{then_as}
use Rattle.guest_tables.proofs.any_schema.SchemaLemmas.{creates}
use Rattle.guest_tables.specs.Layout.{with_pairs, pair_table}
use Rattle.guest_tables.proofs.MakingLemmas.{pairs_text, pairs_made}
use Rattle.guest_tables.proofs.creation.make_pairs.Goals as goal

pub returns : goal.returns
returns g c =
    then_as (IsBare no_schema) (IsBare with_meta) (IsBare with_pairs) (state g.S.Store c.args.conn.now) (state g.S.Store c.make_meta.new.conn)
    (state g.S.Store c.run.new.conn) _ c.run.result c.in_ok-make_meta.ensures
    (creates with_meta pair_table pairs_text pairs_made (state g.S.Store c.make_meta.new.conn) (state g.S.Store c.run.new.conn) c.run.result
    c.run.ensures.runs c.run.ensures.survives)
