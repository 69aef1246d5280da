use Rattle.fuse_store_tables.specs.Content.{set_counter}
use Rattle.fuse_store_tables.specs.Content.{with_counter}
use Rattle.fuse_store_tables.proofs.Joining.{makes_then}
use Rattle.fuse_store_tables.proofs.Within.{within_then, within_failed}
use Rattle.fuse_store_tables.proofs.migration.mark.Goals as goal

pub returns-clause-made : goal.returns-clause-made
returns-clause-made g c = makes_then (with_counter 11 1) (set_counter 1 2) _ _ _ _ _ c.in_ok-insert_counter.ensures.made c.write_counter.ensures.made

pub returns-in_err-insert_counter-clause-within : goal.returns-in_err-insert_counter-clause-within
returns-in_err-insert_counter-clause-within g c = within_failed _ _ _ _ c.in_err-insert_counter.ensures.within c.from_residual.ensures.0

pub returns-clause-within : goal.returns-clause-within
returns-clause-within g c = within_then _ _ _ _ _ c.in_ok-insert_counter.ensures.within c.write_counter.ensures.within
