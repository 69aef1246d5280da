use Rattle.std.proofs.Common.{◌-◌, ◌<◌, ◌^◌}
use Rattle.sqlite.specs.Held.{state}
use Rattle.fuse_store_tables.specs.Moves.{LookedInside}
use Rattle.fuse_store_tree.proofs.windows.read_windows.Given as goal

abbrev pub invariant-loop-slices : goal.invariant-loop-slices
invariant-loop-slices g l = record {
  node : l.node < 2 ^ 63;
  block : l.block < 2 ^ 63;
  looks : LookedInside (state g.S.Store l.fn.conn) (state g.S.Store l.conn);
}

abbrev pub decreases-loop-slices : goal.decreases-loop-slices
decreases-loop-slices g l = 64 - l.slices
