use Rattle.std.proofs.Common.{length, ◌-◌, ◌≡◌, ◌≤◌}
use Rattle.guest_tables.proofs.MetaLemmas.{StartsWell}
use Rattle.guest_tables.proofs.meta.check_rows.Given as goal

abbrev pub invariant-rows : goal.invariant-rows
invariant-rows l = (l.rows ≡ l.fn.rows) × (l.keys ≡ l.fn.keys) × (length l.rows ≡ length l.keys) × (l.at ≤ length l.rows) × StartsWell l.keys l.rows l.at

abbrev pub decreases-rows : goal.decreases-rows
decreases-rows l = length l.rows - l.at
