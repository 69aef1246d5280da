use Rattle.std.proofs.Common.{◌≡◌, ◌≤◌}
use Rattle.fuse_store_tree.proofs.moving.run_begin.Given as goal

abbrev pub invariant-loop-first : goal.invariant-loop-first
invariant-loop-first l = record { low : l.fn.from ≤ l.first; from : l.from ≡ l.fn.from; high : l.first ≤ l.fn.block }

abbrev pub decreases-loop-first : goal.decreases-loop-first
decreases-loop-first l = l.first
