use Rattle.fuse_rows.proofs.Joined.{IsRead}
use Rattle.fuse_rows.proofs.chunks.part_of.Given as goal

abbrev pub invariant-loop-chunk : goal.invariant-loop-chunk
invariant-loop-chunk l = IsRead l.chunks l.offset l.len l.chunk-index l.part.items l.skipped l.left
