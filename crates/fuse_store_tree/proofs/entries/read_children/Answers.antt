use Rattle.std.proofs.Common.{take, ap, sym, ◌∙◌, ◌++◌, ◌∷◌, [], ◌<◌, length, arith, slice_index_or}
use Rattle.fuse_store_tree.specs.inner.Reading.{shown_beside, IsReadBack}
use Rattle.fuse_store_tree.proofs.ListingLemmas.{row_at_is, each_at, more_taken, shown_length, any_default}
use Rattle.fuse_store_tree.proofs.Children.{child_none}
use Rattle.fuse_store_tree.proofs.entries.read_children.Goals as goal

pub returns-in-Err-clause-fault : goal.returns-in-Err-clause-fault
returns-in-Err-clause-fault c xs all is =
    let i = c.loop-row.row-index in
    let low : i < length xs = omega (arith, c.loop-row-test.true, shown_length (shown_beside c.args.layout) c.args.rows.now xs is) in
    let back = each_at child_none (IsReadBack c.args.layout c.args.dir) xs i low all in
    c.in-Err.ensures.fault (slice_index_or xs i child_none) back
    (row_at_is (shown_beside c.args.layout) child_none c.args.rows.now xs i c.row-item.result is (c.row-item.is ∙ any_default c.args.rows.now i c.row-item.result
    (shown_beside c.args.layout child_none) c.loop-row-test.true))

pub loop-row-preserved : goal.loop-row-preserved
loop-row-preserved c xs all is =
    let i = c.loop-row.row-index in
    let low : i < length xs = omega (arith, c.loop-row-test.true, shown_length (shown_beside c.args.layout) c.args.rows.now xs is) in
    let x = slice_index_or xs i child_none in
    let row = row_at_is (shown_beside c.args.layout) child_none c.args.rows.now xs i c.row-item.result is (c.row-item.is ∙ any_default c.args.rows.now i c.row-item.result
    (shown_beside c.args.layout child_none) c.loop-row-test.true) in
    let back = each_at child_none (IsReadBack c.args.layout c.args.dir) xs i low all in
    let told = c.in-Ok.ensures.value x back row in
    c.in_ok-push.ensures.items ∙ ap (λ l. l ++ c.in-Ok.child ∷ []) (c.loop-row.invariant xs all is) ∙ ap (λ y. take i xs ++ y ∷ []) told
    ∙ sym (more_taken child_none xs i low)
