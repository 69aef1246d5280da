use Rattle.std.proofs.Common.{◌-◌, ◌≡◌, ◌≤◌}
use Rattle.sqlite.specs.Held.{state}
use Rattle.fuse_data.specs.State.{state_in}
use Rattle.fuse_store_tree.specs.Viewing.{view_in}
use Rattle.fuse_store_tree.specs.inner.Moving.{AddsTo, MovesOver}
use Rattle.fuse_store_tree.specs.inner.Relisting.{IsAny}
use Rattle.fuse_store_tree.proofs.moving.move_runs.Given as goal

abbrev pub invariant-runs : goal.invariant-runs
invariant-runs g l = record {
  node : l.node ≡ l.fn.node;
  to : l.to ≡ l.fn.to;
  begin : l.fn.from ≤ l.at;
  adds : AddsTo (state_in g.D.Disk l.fn.contents.file) (state_in g.D.Disk l.contents.file) l.fn.contents.written.items l.contents.written.items;
  moved : MovesOver (view_in g.D.Disk l.fn.contents) (view_in g.D.Disk l.contents) IsAny (state g.S.Store l.fn.conn) (state g.S.Store l.conn);
}

abbrev pub decreases-runs : goal.decreases-runs
decreases-runs g l = l.to - l.at
