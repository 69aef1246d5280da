use Rattle.sqlite.specs.Held.{state}
use Rattle.fuse_data.specs.State.{state_in}
use Rattle.fuse_store_tree.specs.Viewing.{view_in}
use Rattle.fuse_store_tree.specs.inner.Moving.{AddsTo, MovesOver}
use Rattle.fuse_store_tree.specs.inner.Relisting.{IsAny}
use Rattle.fuse_store_tree.proofs.windows.move_windows.Given as goal

abbrev pub invariant-loop-window : goal.invariant-loop-window
invariant-loop-window g l = record {
  adds : AddsTo (state_in g.D.Disk l.fn.contents.file) (state_in g.D.Disk l.contents.file) l.fn.contents.written.items l.contents.written.items;
  moved : MovesOver (view_in g.D.Disk l.fn.contents) (view_in g.D.Disk l.contents) IsAny (state g.S.Store l.fn.conn) (state g.S.Store l.conn);
}
