use Rattle.std.proofs.Common.{◌<◌, ◌^◌}
use Rattle.std.specs.Prelude.{IfSome}
use Rattle.fuse_store_tree.proofs.windows.count_slice.Given as goal

abbrev pub invariant-loop-row : goal.invariant-loop-row
invariant-loop-row l = IfSome l.last (λ k. (k.0 < 2 ^ 63) × (k.1 < 2 ^ 63))
