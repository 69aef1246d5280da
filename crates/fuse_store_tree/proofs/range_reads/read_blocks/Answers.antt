use Rattle.std.proofs.Common.{◌≡◌, take, ap, sym, ◌∙◌, ◌++◌, ◌∷◌, [], ◌<◌, ◌≤◌, length, arith, slice_index_or}
use Rattle.fuse_store_tables.specs.Ranges.{numbered_block}
use Rattle.fuse_store_tree.specs.inner.Showing.{row_bytes}
use Rattle.fuse_store_tree.proofs.ListingLemmas.{row_at_is, more_taken, shown_length, any_default}
use Rattle.fuse_store_tree.proofs.RowsShown.{block_none, bytes_at, row_added, all_taken}
use Rattle.fuse_store_tree.proofs.range_reads.read_blocks.Goals as goal

pub returns-in-Err-clause-fault : goal.returns-in-Err-clause-fault
returns-in-Err-clause-fault c bs is =
    let i = c.loop-row.row-index in
    c.in-Err.ensures.fault (slice_index_or bs i block_none)
    (row_at_is numbered_block block_none c.args.rows.now bs i c.row-item.result is (c.row-item.is
    ∙ any_default c.args.rows.now i c.row-item.result (numbered_block block_none) c.loop-row-test.true))

pub loop-row-preserved : goal.loop-row-preserved
loop-row-preserved c bs is block =
    let i = c.loop-row.row-index in
    let low : i < length bs = omega (arith, c.loop-row-test.true, shown_length numbered_block c.args.rows.now bs is) in
    let b = slice_index_or bs i block_none in
    let row = row_at_is numbered_block block_none c.args.rows.now bs i c.row-item.result is (c.row-item.is
    ∙ any_default c.args.rows.now i c.row-item.result (numbered_block block_none) c.loop-row-test.true) in
    ap (row_bytes block) c.in_ok-push.ensures.items
    ∙ row_added block c.loop-row.blocks.items c.in-Ok.block (take i bs) b (c.loop-row.invariant bs is block) (c.in-Ok.ensures.block b row) (c.in-Ok.ensures.bytes b row)
    ∙ ap (bytes_at block) (sym (more_taken block_none bs i low))

pub returns-clause-value : goal.returns-clause-value
returns-clause-value c bs is block =
    let all : length c.args.rows.now ≤ c.loop-row.row-index = omega arith in
    c.loop-row.invariant bs is block ∙ ap (bytes_at block) (all_taken c.args.rows.now bs c.loop-row.row-index is all)
