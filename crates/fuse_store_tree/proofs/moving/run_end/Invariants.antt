use Rattle.std.proofs.Common.{◌-◌, ◌≡◌, ◌≤◌, ◌<◌}
use Rattle.fuse_store_tree.proofs.moving.run_end.Given as goal

abbrev pub invariant-loop-end : goal.invariant-loop-end
invariant-loop-end l = record { low : l.fn.block < l.end; to : l.to ≡ l.fn.to; high : l.end ≤ l.fn.to }

abbrev pub decreases-loop-end : goal.decreases-loop-end
decreases-loop-end l = l.to - l.end
