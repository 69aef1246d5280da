use Rattle.std.proofs.Common.{◌-◌, ◌≡◌, ◌≤◌, length, take}
use Rattle.sqlite.specs.Held.{state}
use Rattle.fuse_store_tree.specs.Pieces.{ReadsFile}
use Rattle.fuse_store_tree.specs.inner.Changing.{Overlaid}
use Rattle.fuse_store_tree.proofs.block_writes.write_range.Given as goal

abbrev pub invariant-pieces : goal.invariant-pieces
invariant-pieces g l = record {
  node : l.node ≡ l.fn.node;
  at : l.at ≡ l.fn.at;
  bytes : l.bytes ≡ l.fn.bytes;
  done : l.done ≤ length l.fn.bytes;
  reads : ReadsFile (g.C.Contents.file l.fn.contents) (g.C.Contents.file l.contents);
  overlaid : Overlaid (g.C.Contents.file l.contents) l.fn.node l.fn.at (take l.done l.fn.bytes) (state g.S.Store l.fn.conn) (state g.S.Store l.conn);
}

abbrev pub decreases-pieces : goal.decreases-pieces
decreases-pieces g l = length l.fn.bytes - l.done
