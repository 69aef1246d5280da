use Rattle.std.proofs.Common.{length, ◌-◌, ◌≡◌, ◌≤◌}
use Rattle.fuse_store_tables.proofs.MetaLemmas.{StartsWell}
use Rattle.fuse_store_tables.proofs.meta.check_rows.Given as goal

abbrev pub invariant-rows : goal.invariant-rows
invariant-rows l = (l.rows ≡ l.fn.rows) × (l.profile ≡ l.fn.profile) × (l.count ≡ l.fn.count) × (l.at ≤ length l.rows) × StartsWell l.profile l.rows l.at

abbrev pub decreases-rows : goal.decreases-rows
decreases-rows l = length l.rows - l.at
