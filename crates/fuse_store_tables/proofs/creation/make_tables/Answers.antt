use Rattle.sqlite.specs.Held.{state}
use Rattle.fuse_store_tables.specs.Layout.{no_schema, with_meta}
use Rattle.fuse_store_tables.specs.Making.{IsBare}
use Rattle.fuse_store_tables.specs.Refusing.{IsNameTaken}
use Rattle.fuse_store_tables.specs.inner.Steps.{HasCounters}
use Rattle.fuse_store_tables.specs.declared.version.Layout.TheVariants.{Second}
use Rattle.fuse_store_tables.specs.inner.Following.{earlier}
use Rattle.fuse_store_tables.proofs.Joining.{then_as}
use Rattle.fuse_store_tables.proofs.Within.{within_then, within_failed}
use Rattle.fuse_store_tables.proofs.Taken.{passed_on}
use Rattle.fuse_store_tables.proofs.creation.make_tables.Goals as goal

pub returns-clause-made : goal.returns-clause-made
returns-clause-made g c =
    then_as (IsBare no_schema) (IsBare with_meta) (HasCounters Second) (state g.S.Store c.args.conn.now) (state g.S.Store c.make_meta.new.conn)
    (state g.S.Store c.fill_meta.new.conn) _ c.fill_meta.result c.in_ok-make_meta.ensures.made c.fill_meta.ensures.made

pub returns-in_err-make_meta-clause-within : goal.returns-in_err-make_meta-clause-within
returns-in_err-make_meta-clause-within g c = within_failed _ _ _ _ c.in_err-make_meta.ensures.within c.from_residual.ensures.0

pub returns-clause-within : goal.returns-clause-within
returns-clause-within g c = within_then _ _ _ _ _ c.in_ok-make_meta.ensures.within c.fill_meta.ensures.within

pub returns-in_err-make_meta-clause-taken : goal.returns-in_err-make_meta-clause-taken
returns-in_err-make_meta-clause-taken g c = λ clean has.
    passed_on _ c.from_residual.result IsNameTaken c.from_residual.ensures.1 (c.in_err-make_meta.ensures.taken clean has)

pub returns-clause-taken : goal.returns-clause-taken
returns-clause-taken g c = λ clean has.
    absurd (c.in_ok-make_meta.ensures.taken (earlier (state g.S.Store c.make_meta.new.conn) (state g.S.Store c.fill_meta.new.conn) _
    c.fill_meta.ensures.within.survives clean) has)
