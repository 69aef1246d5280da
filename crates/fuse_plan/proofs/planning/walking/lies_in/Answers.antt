use Rattle.std.proofs.Common.{rules}
use Rattle.fuse_plan.proofs.Walking.{rows_end, rows_few}
use Rattle.fuse_plan.proofs.planning.walking.lies_in.Goals as goal

pub returns : goal.returns
returns g c = record {
  reads = search (rules, rows_end, rows_few, g.met.L.Look.and_then, g.met.L.Look.was_clean, g.met.L.Look.kept);
  fault = search rules;
  looks = search (rules, g.met.L.Look.and_then);
  fails = search (rules, g.met.L.Look.and_then, g.met.L.Look.and_fails, g.met.L.Look.or_less);
}
