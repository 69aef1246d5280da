use Rattle.sqlite.specs.Held.{state}
use Rattle.fuse_store_tables.specs.Layout.{no_schema, with_meta}
use Rattle.fuse_store_tables.specs.Making.{IsBare}
use Rattle.fuse_store_tables.specs.inner.Steps.{HasCounters}
use Rattle.fuse_store_tables.specs.declared.version.Layout.TheVariants.{Third}
use Rattle.fuse_store_tables.proofs.Joining.{then_as}
use Rattle.fuse_store_tables.proofs.Within.{within_then, within_failed}
use Rattle.fuse_store_tables.proofs.third.make_third.Goals as goal

pub returns-clause-made : goal.returns-clause-made
returns-clause-made g c =
    then_as (IsBare no_schema) (IsBare with_meta) (HasCounters Third) (state g.S.Store c.args.conn.now) (state g.S.Store c.make_meta.new.conn)
    (state g.S.Store c.fill_third.new.conn) _ c.fill_third.result c.in_ok-make_meta.ensures.made c.fill_third.ensures.made

pub returns-in_err-make_meta-clause-within : goal.returns-in_err-make_meta-clause-within
returns-in_err-make_meta-clause-within g c = within_failed _ _ _ _ c.in_err-make_meta.ensures.within c.from_residual.ensures.0

pub returns-clause-within : goal.returns-clause-within
returns-clause-within g c = within_then _ _ _ _ _ c.in_ok-make_meta.ensures.within c.fill_third.ensures.within
