use Rattle.std.proofs.Common.{◌≡◌, ℕ, [], ◌+◌, ◌*◌, ◌-◌, ◌≤◌, length}
use Rattle.std.specs.List.{All}
use Rattle.fuse_data.specs.State.{state_of}
use Rattle.fuse_store_tree.specs.inner.Preparing.{IsMadeAside, WritesAside}
use Rattle.fuse_store_tree.proofs.made.make_pieces.Given as goal

abbrev pub invariant-loop-block : goal.invariant-loop-block
invariant-loop-block g l = record {
  begins : l.at ≤ l.block * 4096;
  ends : l.end * 4096 ≤ l.at + length l.bytes;
  aside : WritesAside (state_of g.D.Disk l.fn.file) (state_of g.D.Disk l.file) l.fn.written.items l.written.items;
  idle : l.written.items ≡ [] → l.file ≡ l.fn.file;
  made : All (IsMadeAside (state_of g.D.Disk l.file) l.written.items l.at l.bytes) l.pieces.items;
}

abbrev pub decreases-loop-block : goal.decreases-loop-block
decreases-loop-block g l = l.end - l.block
