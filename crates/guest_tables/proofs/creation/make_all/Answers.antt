use Rattle.sqlite.specs.Held.{state}
use Rattle.fuse_store_tables.specs.Layout.{no_schema}
use Rattle.fuse_store_tables.specs.Making.{IsBare}
use Rattle.fuse_store_tables.specs.inner.Following.{then_as}
use Rattle.guest_tables.specs.Layout.{guest_schema}
use Rattle.guest_tables.specs.Making.{IsNew}
use Rattle.guest_tables.proofs.creation.make_all.Goals as goal

pub returns : goal.returns
returns g c =
    then_as (IsBare no_schema) (IsBare guest_schema) (IsNew c.args.number) (state g.S.Store c.args.conn.now) (state g.S.Store c.make_kept.new.conn)
    (state g.S.Store c.fill.new.conn) _ c.fill.result c.in_ok-make_kept.ensures c.fill.ensures
