use Rattle.std.proofs.Common.{◌≤◌}
use Rattle.fuse_store_tree.proofs.free_space.lost_after.Given as goal

abbrev pub invariant-loop-one : goal.invariant-loop-one
invariant-loop-one l = record { more : l.lost ≤ l.sum }
