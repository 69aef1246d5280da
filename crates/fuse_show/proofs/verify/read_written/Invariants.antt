use Rattle.std.proofs.Common.{◌≡◌, None}
use Rattle.fuse_show.proofs.verify.read_written.Given as goal

abbrev pub invariant-loop : goal.invariant-loop
invariant-loop g l = record {
  fault : g.L.Look.fault l.look ≡ None;
  looks : g.L.Look.looks l.fn.look l.look;
  silent : l.writer ≡ l.fn.writer;
}
