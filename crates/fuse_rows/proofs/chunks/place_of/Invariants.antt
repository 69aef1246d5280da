use Rattle.std.specs.Prelude.{◌≡◌, ◌+◌, length, take}
use Rattle.fuse_rows.specs.inner.ChunkBytes.{joined_chunks}
use Rattle.fuse_rows.proofs.chunks.place_of.Given as goal

abbrev pub invariant-loop-index : goal.invariant-loop-index
invariant-loop-index l = length (joined_chunks (take l.index l.chunks)) + l.left ≡ l.at
