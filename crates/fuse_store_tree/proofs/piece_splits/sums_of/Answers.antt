use Rattle.std.proofs.Common.{◌-◌, ◌*◌, ap, arith, drop, length, take, ◌∙◌}
use Rattle.fuse_data.specs.Extents.{sum_of}
use Rattle.fuse_rows.specs.Bounds.{block_bytes}
use Rattle.fuse_store_tree.specs.inner.Laws.{still_read}
use Rattle.fuse_store_tree.proofs.Splits.{sums_are, sums_zeros}
use Rattle.fuse_store_tree.proofs.piece_splits.sums_of.Goals as goal

pub returns-then-piece-eq0-clause-sums : goal.returns-then-piece-eq0-clause-sums
returns-then-piece-eq0-clause-sums g c read = sums_zeros _ c.args.piece c.args.block c.if-piece-eq0.true

pub returns-clause-sums : goal.returns-clause-sums
returns-clause-sums g c read =
    let m = (c.args.block - c.args.piece.first) * block_bytes in
    let are = rw c.extent_of-extent.ensures.is at (c.in-Ok.ensures.bytes read) in
    let long = rw c.extent_of-extent.ensures.is at c.in-Ok.ensures.long in
    sums_are c.parts_hold.ensures (g.C.Contents.file c.read.new.self).bytes c.args.piece c.args.block _ _ c.in-Ok.bytes.items c.requires.begins c.requires.ends
    are long (c.digests_of.ensures.front ∙ ap (λ l. sum_of (take m l)) c.as_slice.ensures.value)
    (c.digests_of.ensures.back ∙ ap (λ l. sum_of (drop m l)) c.as_slice.ensures.value)

pub digests_of-requires : goal.digests_of-requires
digests_of-requires g c =
    let long = c.in-Ok.ensures.long in
    let same = ap length c.as_slice.ensures.value in
    omega (arith, long, same, c.extent_of-extent.ensures.count, c.requires.ends)

pub returns-then-piece-eq0-clause-reads : goal.returns-then-piece-eq0-clause-reads
returns-then-piece-eq0-clause-reads g c = still_read (g.C.Contents.file c.args.contents.now)
