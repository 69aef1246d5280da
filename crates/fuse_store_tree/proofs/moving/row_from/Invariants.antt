use Rattle.std.proofs.Common.{◌-◌, ◌≡◌, ◌≤◌}
use Rattle.fuse_store_tree.proofs.moving.row_from.Given as goal

abbrev pub invariant-loop-block : goal.invariant-loop-block
invariant-loop-block l = record { low : l.fn.from ≤ l.block; to : l.to ≡ l.fn.to; high : l.block ≤ l.fn.to }

abbrev pub decreases-loop-block : goal.decreases-loop-block
decreases-loop-block l = l.to - l.block
