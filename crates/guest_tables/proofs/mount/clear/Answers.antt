use Rattle.guest_tables.specs.Clearing.{without_settings}
use Rattle.guest_tables.specs.inner.Steps.{without_records}
use Rattle.guest_tables.proofs.any_schema.Within.{within_then, within_failed}
use Rattle.guest_tables.proofs.Joining.{makes_then}
use Rattle.guest_tables.proofs.mount.clear.Goals as goal

pub returns-clause-made : goal.returns-clause-made
returns-clause-made g c = makes_then without_records without_settings _ _ _ _ _ c.in_ok-clear_records.ensures.made c.clear_settings.ensures.made

pub returns-in_err-clear_records-clause-within : goal.returns-in_err-clear_records-clause-within
returns-in_err-clear_records-clause-within g c = within_failed _ _ _ _ c.in_err-clear_records.ensures.within c.from_residual.ensures.0

pub returns-clause-within : goal.returns-clause-within
returns-clause-within g c = within_then _ _ _ _ _ c.in_ok-clear_records.ensures.within c.clear_settings.ensures.within
