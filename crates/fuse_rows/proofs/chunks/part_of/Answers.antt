use Rattle.std.proofs.Common.{◌++◌, ◌-◌, ◌∙◌, length, take, drop, ap, arith}
use Rattle.fuse_rows.specs.inner.ChunkBytes.{bytes_of_chunk}
use Rattle.fuse_rows.proofs.Joined.{more_read}
use Rattle.fuse_rows.proofs.chunks.part_of.Goals as goal

pub loop-chunk-preserved : goal.loop-chunk-preserved
loop-chunk-preserved c =
    let l = c.loop-chunk in
    more_read c.args.chunks.now c.args.offset c.args.len l.chunk-index l.part.items l.skipped l.left c.chunk-item.result c.loop-chunk-test.true l.invariant
    c.read.new.found.items c.saturating_sub-skipped.result _
    (c.in_ok-read.ensures ∙ ap (λ x. l.part.items ++ take l.left (drop l.skipped (bytes_of_chunk x))) c.chunk-item.is)
    (c.saturating_sub-skipped.ensures ∙ ap (λ n. l.skipped - n) (c.len.ensures ∙ ap (λ x. length (bytes_of_chunk x)) c.chunk-item.is))
    (omega (arith, c.len-in-loop-chunk.ensures, c.read.new.found.ok.0))
