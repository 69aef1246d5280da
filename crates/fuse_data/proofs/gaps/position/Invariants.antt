use Rattle.std.proofs.Common.{ℕ, ◌-◌, ◌<◌, ◌≤◌, length, slice_index_or}
use Rattle.fuse_data.specs.declared.gaps.Gap.{Gap}
use Rattle.fuse_data.proofs.gaps.position.Given as goal

abbrev pub invariant-loop-low : goal.invariant-loop-low
invariant-loop-low l = record {
  within : l.high ≤ length l.gaps;
  order : l.low ≤ l.high;
  before : (k : ℕ) (d : Gap) → k < l.low → (slice_index_or l.gaps k d).to < l.block;
  after : (k : ℕ) (d : Gap) → l.high ≤ k → k < length l.gaps → l.block ≤ (slice_index_or l.gaps k d).to;
}

abbrev pub decreases-loop-low : goal.decreases-loop-low
decreases-loop-low l = l.high - l.low
