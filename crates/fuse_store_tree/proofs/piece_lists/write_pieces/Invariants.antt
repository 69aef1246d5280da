use Rattle.std.proofs.Common.{◌≤◌, length, take}
use Rattle.sqlite.specs.Held.{state}
use Rattle.fuse_store_tree.specs.Widening.{Widens}
use Rattle.fuse_store_tree.specs.inner.Over.{OverlaidOver}
use Rattle.fuse_store_tree.proofs.piece_lists.write_pieces.Given as goal

abbrev pub invariant-loop-piece : goal.invariant-loop-piece
invariant-loop-piece g l = record {
  done : l.done ≤ length l.fn.made.bytes.now;
  widens : Widens (g.C.Contents.file l.fn.contents) (g.C.Contents.file l.contents);
  overlaid : OverlaidOver (g.C.Contents.file l.fn.contents) (g.C.Contents.file l.contents) l.fn.node l.fn.made.at (take l.done l.fn.made.bytes.now) (state g.S.Store l.fn.conn) (state g.S.Store l.conn);
}
