use Rattle.std.proofs.Common.{◌≡◌, ◌≤◌, ℕ, vec_len}
use Rattle.std.specs.HashMap.{spare}
use Rattle.fuse_keeper.specs.Plain.{mapped}
use Rattle.fuse_keeper.specs.inner.Overlay.{over}
use Rattle.fuse_keeper.proofs.group.put_all.Given as goal

abbrev pub decreases-loop-record : goal.decreases-loop-record
decreases-loop-record l = vec_len l.added

abbrev pub invariant-loop-record : goal.invariant-loop-record
invariant-loop-record l = record {
  room : vec_len l.added ≤ spare l.records;
  same : (i : ℕ) → over l.added.items (mapped l.records) i ≡ over l.initial.added.items (mapped l.initial.records) i;
}
