use Rattle.std.proofs.Common.{[]}
use Rattle.sqlite.specs.Held.{state}
use Rattle.fuse_store_tables.specs.Layout.{with_meta, third_schema}
use Rattle.fuse_store_tables.specs.Making.{IsBare}
use Rattle.fuse_store_tables.specs.inner.Steps.{HasCounters}
use Rattle.fuse_store_tables.specs.declared.version.Layout.TheVariants.{Third}
use Rattle.fuse_store_tables.proofs.Joining.{then_as}
use Rattle.fuse_store_tables.proofs.MakingLemmas.{fill}
use Rattle.fuse_store_tables.proofs.Within.{within_then, within_failed, edits_within, fill_edit}
use Rattle.fuse_store_tables.proofs.third.fill_third.Goals as goal

pub returns-clause-made : goal.returns-clause-made
returns-clause-made g c =
    then_as (IsBare with_meta) (IsBare third_schema) (HasCounters Third) (state g.S.Store c.args.conn.now) (state g.S.Store c.add_xattrs.new.conn)
    (state g.S.Store c.run.new.conn) _ c.run.result c.in_ok-add_xattrs.ensures.made
    (fill Third (state g.S.Store c.add_xattrs.new.conn) (state g.S.Store c.run.new.conn) c.run.result c.run.ensures.runs
    c.run.ensures.survives)

pub returns-in_err-add_xattrs-clause-within : goal.returns-in_err-add_xattrs-clause-within
returns-in_err-add_xattrs-clause-within g c = within_failed _ _ _ _ c.in_err-add_xattrs.ensures.within c.from_residual.ensures.0

pub returns-clause-within : goal.returns-clause-within
returns-clause-within g c =
    within_then _ _ _ _ _ c.in_ok-add_xattrs.ensures.within (edits_within _ [] (fill_edit Third) (state g.S.Store c.add_xattrs.new.conn) (state g.S.Store c.run.new.conn) c.run.result
    c.run.ensures.runs c.run.ensures.survives)
