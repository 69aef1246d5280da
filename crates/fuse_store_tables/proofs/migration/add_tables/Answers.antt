use Rattle.sqlite.specs.Held.{state}
use Rattle.fuse_store_tables.specs.Opening.{IsFirst}
use Rattle.fuse_store_tables.specs.inner.Steps.{HasKept, HasTables}
use Rattle.fuse_store_tables.proofs.Joining.{then_as}
use Rattle.fuse_store_tables.proofs.MigrationLemmas.{indexes_kept}
use Rattle.fuse_store_tables.proofs.Within.{within_then, within_failed}
use Rattle.fuse_store_tables.proofs.migration.add_tables.Goals as goal

pub returns-clause-made : goal.returns-clause-made
returns-clause-made g c =
    then_as IsFirst HasKept HasTables (state g.S.Store c.args.conn.now) (state g.S.Store c.add_kept.new.conn) (state g.S.Store c.add_index.new.conn) _
    c.add_index.result c.in_ok-add_kept.ensures.made
    (indexes_kept (state g.S.Store c.add_kept.new.conn) (state g.S.Store c.add_index.new.conn) c.add_index.result c.add_index.ensures.made)

pub returns-in_err-add_kept-clause-within : goal.returns-in_err-add_kept-clause-within
returns-in_err-add_kept-clause-within g c = within_failed _ _ _ _ c.in_err-add_kept.ensures.within c.from_residual.ensures.0

pub returns-clause-within : goal.returns-clause-within
returns-clause-within g c = within_then _ _ _ _ _ c.in_ok-add_kept.ensures.within c.add_index.ensures.within
