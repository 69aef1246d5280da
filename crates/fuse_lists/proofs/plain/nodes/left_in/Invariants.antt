use Rattle.std.specs.Prelude.{◌≡◌, ◌-◌, drop}
use Rattle.fuse_tree.specs.Clearing.{blocks_freed}
use Rattle.fuse_lists.proofs.plain.nodes.left_in.Given as goal

abbrev pub invariant-loop-full : goal.invariant-loop-full
invariant-loop-full l = l.left - blocks_freed (drop l.full-index l.nodes) ≡ l.used - blocks_freed l.nodes
