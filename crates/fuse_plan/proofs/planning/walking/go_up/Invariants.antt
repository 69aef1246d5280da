use Rattle.std.proofs.Common.{◌≡◌, None, false}
use Rattle.fuse_tree.specs.State.{above}
use Rattle.fuse_rows.specs.Rows.{Rows}
use Rattle.fuse_tree.specs.Rowed.{IsRowed}
use Rattle.fuse_tree.specs.Renaming.{leads_to}
use Rattle.fuse_plan.proofs.planning.walking.go_up.Given as goal

-- so many steps lead to this place, and no earlier place is the node
abbrev pub invariant-loop-step : goal.invariant-loop-step
invariant-loop-step g l = record {
  fault : g.L.Look.fault l.look ≡ None;
  looks : g.L.Look.looks l.fn.look l.look;
  way : g.L.Look.is_clean l.look → (rows : Rows) → IsRowed rows → g.L.Look.sees l.fn.look rows
      → (above rows.entries l._step l.dir ≡ l.place) × (leads_to rows.entries l._step l.node l.dir ≡ false);
}
