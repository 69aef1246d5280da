use Rattle.sqlite.specs.Held.{state}
use Rattle.fuse_store_tables.specs.Layout.{no_schema, store_schema}
use Rattle.fuse_store_tables.specs.Making.{IsBare}
use Rattle.fuse_store_tables.specs.declared.version.Layout.TheVariants.{Third}
use Rattle.fuse_store_tables.specs.inner.Copies.{no_rows}
use Rattle.fuse_store_tables.specs.inner.Dropping.{HasSchema}
use Rattle.fuse_store_tables.specs.inner.Steps.{HoldsIn}
use Rattle.fuse_store_tables.proofs.Joining.{then_as}
use Rattle.fuse_store_tables.proofs.everyday.remake.Goals as goal

pub returns : goal.returns
returns g c =
    then_as (HasSchema store_schema) (IsBare no_schema) (λ _. HoldsIn Third (no_rows Third)) (state g.S.Store c.args.conn.now) (state g.S.Store c.drop_all.new.conn)
    (state g.S.Store c.make_empty.new.conn) _ c.make_empty.result c.in_ok-drop_all.ensures c.make_empty.ensures
