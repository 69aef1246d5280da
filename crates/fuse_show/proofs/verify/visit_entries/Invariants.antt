use Rattle.std.proofs.Common.{◌≡◌, None}
use Rattle.fuse_show.proofs.verify.visit_entries.Given as goal

abbrev pub invariant-loop-entry : goal.invariant-loop-entry
invariant-loop-entry g l = record {
  fault : g.L.Look.fault l.look ≡ None;
  looks : g.L.Look.looks l.fn.look l.look;
  silent : l.writer ≡ l.fn.writer;
}
