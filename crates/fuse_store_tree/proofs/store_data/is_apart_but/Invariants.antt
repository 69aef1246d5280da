use Rattle.std.proofs.Common.{◌≡◌, ◌≢◌, ℕ, ◌-◌, ◌<◌, ◌≤◌, length, slice_index_or, false}
use Rattle.fuse_store_tree.specs.inner.Preparing.{ShareNone}
use Rattle.fuse_store_tree.specs.declared.store_data.Written.{Written}
use Rattle.fuse_store_tree.proofs.store_data.is_apart_but.Given as goal

abbrev pub invariant-loop-i : goal.invariant-loop-i
invariant-loop-i l = record {
  low : l.i ≤ length l.written;
  apart : (j : ℕ) (d : Written) → j < l.i → j ≢ l.but → (slice_index_or l.written j d).listed ≡ false
      → ShareNone l.extent (slice_index_or l.written j d).extent;
}

abbrev pub decreases-loop-i : goal.decreases-loop-i
decreases-loop-i l = length l.written - l.i
