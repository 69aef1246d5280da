use Rattle.std.proofs.Common.{length, take, ◌-◌, ◌≡◌, ◌≤◌}
use Rattle.fuse_store_tables.specs.inner.Steps.{read_blocks}
use Rattle.fuse_store_tables.proofs.used.left_of.Given as goal

abbrev pub invariant-extents : goal.invariant-extents
invariant-extents l = (l.used ≡ l.fn.used) × (l.extents ≡ l.fn.extents) × (l.at ≤ length l.extents) × (l.left ≡ l.fn.used - read_blocks l.fn.layout (take l.at l.extents))

abbrev pub decreases-extents : goal.decreases-extents
decreases-extents l = length l.extents - l.at
