use Rattle.std.proofs.Common.{ap, ◌∙◌}
use Rattle.fuse_data.specs.Extents.{bytes_of}
use Rattle.fuse_store_tree.proofs.Looks.{map_ok, map_err}
use Rattle.fuse_store_tree.proofs.BlockParts.{zeros_read, piece_read}
use Rattle.fuse_store_tree.proofs.piece_reads.read_block_of.Goals as goal

pub returns-then-piece-eq0-clause-value : goal.returns-then-piece-eq0-clause-value
returns-then-piece-eq0-clause-value g c read =
    map_ok c.zeros.result _ _ (λ v is. zeros_read (g.C.Contents.file c.args.contents.now).bytes c.args.piece c.args.block v.items c.if-piece-eq0.true c.requires.from
    c.requires.to is) c.zeros.ensures.value

pub returns-clause-value : goal.returns-clause-value
returns-clause-value g c read =
    map_ok c.copy_block.result _ _ (λ v is. piece_read (g.C.Contents.file c.read.new.self).bytes c.args.piece c.args.block c.in_ok-bytes.bytes.items v.items
    c.if-piece-eq0.false (c.in_ok-bytes.ensures.bytes read ∙ ap (bytes_of (g.C.Contents.file c.read.new.self).bytes) c.extent_of.ensures)
    (rw c.as_slice.ensures.value at is)) c.copy_block.ensures.value
