use Rattle.std.proofs.Common.{take}
use Rattle.fuse_store_tree.specs.inner.Relisting.{Remembers, rows_extents}
use Rattle.fuse_store_tree.proofs.piece_cuts.Gone.add_all.Given as goal

abbrev pub invariant-loop-piece : goal.invariant-loop-piece
invariant-loop-piece l = Remembers (rows_extents (take l.piece-index l.pieces)) l.fn.self l.self
