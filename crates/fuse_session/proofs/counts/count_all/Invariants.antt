use Rattle.std.proofs.Common.{◌≡◌, ◌≤◌, length, drop}
use Rattle.fuse_session.specs.Counting.{plus}
use Rattle.fuse_session.specs.inner.Counting.{IsBelow}
use Rattle.fuse_session.specs.inner.Group.{tallied, repeats_in}
use Rattle.fuse_session.proofs.counts.count_all.Given as goal

abbrev pub invariant-loop-place : goal.invariant-loop-place
invariant-loop-place g l = record {
  next : l.next ≤ length l.dones;
  so_far : plus l.counts (tallied g.service (drop l.place l.messages) (drop l.next (repeats_in l.dones))) ≡ tallied g.service l.messages (repeats_in l.dones);
  below : IsBelow l.counts l.place;
}
