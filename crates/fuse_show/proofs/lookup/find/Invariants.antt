use Rattle.std.proofs.Common.{◌≡◌, None, length}
use Rattle.fuse_show.proofs.Walks.{Went}
use Rattle.fuse_show.proofs.lookup.find.Given as goal

abbrev pub decreases-loop-name : goal.decreases-loop-name
decreases-loop-name g l = length l.rest

abbrev pub invariant-loop-name : goal.invariant-loop-name
invariant-loop-name g l = record {
  fault : g.L.Look.fault l.look ≡ None;
  looks : g.L.Look.looks l.fn.look l.look;
  went : Went (g.L.Look.is_clean l.look) (g.L.Look.sees l.fn.look) l.path l.rest l.place;
}
