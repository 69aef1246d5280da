use Rattle.std.proofs.Common.{◌≡◌, [], None, take, length}
use Rattle.sqlite.specs.Held.{state}
use Rattle.fuse_keeper.specs.Group.{entries_of}
use Rattle.fuse_keeper.specs.History.{kept_of}
use Rattle.fuse_tree.specs.TheTree.{tree_of}
use Rattle.fuse_store_tree.specs.Looking.{as_look_fault}
use Rattle.fuse_store_tree.specs.Pieces.{ReadsFile}
use Rattle.fuse_store_tree.specs.Widening.{Widens}
use Rattle.fuse_store_tree.specs.inner.Over.{TurnedOver}
use Rattle.fuse_store_tree.specs.Group.{with_group}
use Rattle.fuse_store_tree.proofs.GroupsOver.{AreDonesOver}
use Rattle.fuse_store_tree.proofs.group.take_all.Given as goal

abbrev pub invariant-loop-one : goal.invariant-loop-one
invariant-loop-one g l = record {
  at : l.i ≡ l.one-index;
  widens : Widens (g.C.Contents.file l.fn.look.contents) (g.C.Contents.file l.look.contents);
  reads : kept_of (tree_of l.profile).service (entries_of l.group) ≡ [] → ReadsFile (g.C.Contents.file l.fn.look.contents) (g.C.Contents.file l.look.contents);
  turned : TurnedOver (g.C.Contents.file l.fn.look.contents) (g.C.Contents.file l.look.contents) l.fn.look.known l.look.known
      (with_group (tree_of l.profile).service l.lot (entries_of (take l.one-index l.group))) (state g.S.Store l.fn.look.conn) (state g.S.Store l.look.conn);
  dones : AreDonesOver (g.C.Contents.file l.fn.look.contents) (g.C.Contents.file l.look.contents) (tree_of l.profile).service l.fn.look.known l.lot
      (entries_of (take l.one-index l.group)) (state g.S.Store l.fn.look.conn) (state g.S.Store l.look.conn) l.dones.items;
  count : length l.dones.items ≡ l.one-index;
  ready : as_look_fault l.look.fault ≡ None;
}
