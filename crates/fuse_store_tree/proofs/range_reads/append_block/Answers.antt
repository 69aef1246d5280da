use Rattle.std.proofs.Common.{◌++◌, ◌/◌, ap, sym, ◌∙◌}
use Rattle.fuse_rows.specs.Bounds.{block_bytes}
use Rattle.fuse_store_tree.proofs.Steps.{on_ok}
use Rattle.fuse_store_tree.proofs.Looks.{map_ok, map_err}
use Rattle.fuse_store_tree.proofs.BlockParts.{row_part, row_long, row_found, row_missing}
use Rattle.fuse_store_tree.proofs.range_reads.append_block.Goals as goal

pub returns-in-Some-clause-value : goal.returns-in-Some-clause-value
returns-in-Some-clause-value g c read =
    let file = (g.C.Contents.file c.args.contents.now).bytes in
    on_ok c.append_row.result _ _ (λ is node k shows sound. is ∙ ap (λ l. c.args.out.now.items ++ l)
    (row_part file k node c.args.here _ _ shows sound c.in-Some.row.now.bytes.items c.args.count
    (row_found (c.args.here / block_bytes) c.args.stored.now.rows.items c.in-Some.row.now (rw c.as_slice.ensures.value at c.in-Some.ensures)) c.requires.within)) c.append_row.ensures.appended

pub returns-in-Some-clause-fault : goal.returns-in-Some-clause-fault
returns-in-Some-clause-fault g c read =
    let file = (g.C.Contents.file c.args.contents.now).bytes in
    map_err c.append_row.result _ _ (λ f told node k shows sound. told (row_long file k node c.args.here _ _ shows sound c.in-Some.row.now.bytes.items
    (row_found (c.args.here / block_bytes) c.args.stored.now.rows.items c.in-Some.row.now (rw c.as_slice.ensures.value at c.in-Some.ensures)))) c.append_row.ensures.fault

pub returns-in-None-clause-value : goal.returns-in-None-clause-value
returns-in-None-clause-value g c read =
    on_ok c.append_other.result _ _ (λ told node k shows sound. told node k (row_missing (c.args.here / block_bytes) c.args.stored.now.rows.items (rw c.as_slice.ensures.value at c.in-None.ensures)) shows sound)
    (c.append_other.ensures.value read)
