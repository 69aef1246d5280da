use Rattle.std.specs.Prelude.{◌≡◌, take}
use Rattle.fuse_rows.proofs.chunks.copies_of.Given as goal

abbrev pub invariant-loop-chunk : goal.invariant-loop-chunk
invariant-loop-chunk l = l.copies.items ≡ take l.chunk-index l.chunks
