use Rattle.std.proofs.Common.{length, ◌-◌, ◌≡◌, ◌≤◌}
use Rattle.guest_tables.proofs.RecordChecks.{StartsWell}
use Rattle.guest_tables.proofs.record_checks.check_rows.Given as goal

abbrev pub invariant-rows : goal.invariant-rows
invariant-rows l = (l.rows ≡ l.fn.rows) × (l.at ≤ length l.rows) × StartsWell l.rows l.at

abbrev pub decreases-rows : goal.decreases-rows
decreases-rows l = length l.rows - l.at
