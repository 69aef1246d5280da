use Rattle.std.proofs.Common.{◌≡◌, ◌-◌, None}
use Rattle.fuse_show.proofs.verify.read_range.Given as goal

abbrev pub decreases-loop-offset : goal.decreases-loop-offset
decreases-loop-offset g l = l.to - l.offset

abbrev pub invariant-loop-offset : goal.invariant-loop-offset
invariant-loop-offset g l = record {
  fault : g.L.Look.fault l.look ≡ None;
  looks : g.L.Look.looks l.fn.look l.look;
  silent : l.writer ≡ l.fn.writer;
}
