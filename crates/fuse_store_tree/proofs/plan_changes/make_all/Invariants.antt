use Rattle.std.proofs.Common.{take}
use Rattle.sqlite.specs.Held.{state}
use Rattle.fuse_store_tree.specs.Widening.{Widens}
use Rattle.fuse_store_tree.specs.inner.Over.{ChangedKnownOver}
use Rattle.fuse_store_tree.specs.inner.Writing.{with_changes}
use Rattle.fuse_store_tree.proofs.plan_changes.make_all.Given as goal

abbrev pub invariant-loop-change : goal.invariant-loop-change
invariant-loop-change g l = record {
  widens : Widens (g.C.Contents.file l.fn.contents) (g.C.Contents.file l.contents);
  changed : ChangedKnownOver (g.C.Contents.file l.fn.contents) (g.C.Contents.file l.contents) l.fn.known l.last (with_changes (take l.change-index l.changes)) (state g.S.Store l.fn.conn) (state g.S.Store l.conn);
}
