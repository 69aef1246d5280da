use Rattle.std.proofs.Common.{[]}
use Rattle.sqlite.specs.Held.{state}
use Rattle.fuse_store_tables.specs.Opening.{IsFirst}
use Rattle.fuse_store_tables.specs.inner.Steps.{HasLots, HasKept}
use Rattle.fuse_store_tables.proofs.Joining.{then_as}
use Rattle.fuse_store_tables.proofs.MigrationLemmas.{adds_kept_table}
use Rattle.fuse_store_tables.proofs.Within.{within_then, within_failed, edits_within, kept_made_edit}
use Rattle.fuse_store_tables.proofs.migration.add_kept.Goals as goal

pub returns-clause-made : goal.returns-clause-made
returns-clause-made g c =
    then_as IsFirst HasLots HasKept (state g.S.Store c.args.conn.now) (state g.S.Store c.add_lots.new.conn) (state g.S.Store c.run.new.conn) _
    c.run.result c.in_ok-add_lots.ensures.made
    (adds_kept_table (state g.S.Store c.add_lots.new.conn) (state g.S.Store c.run.new.conn) c.run.result c.run.ensures.runs
    c.run.ensures.survives)

pub returns-in_err-add_lots-clause-within : goal.returns-in_err-add_lots-clause-within
returns-in_err-add_lots-clause-within g c = within_failed _ _ _ _ c.in_err-add_lots.ensures.within c.from_residual.ensures.0

pub returns-clause-within : goal.returns-clause-within
returns-clause-within g c =
    within_then _ _ _ _ _ c.in_ok-add_lots.ensures.within (edits_within _ [] kept_made_edit (state g.S.Store c.add_lots.new.conn) (state g.S.Store c.run.new.conn) c.run.result
    c.run.ensures.runs c.run.ensures.survives)
