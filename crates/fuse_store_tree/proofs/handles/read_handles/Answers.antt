use Rattle.std.proofs.Common.{◌≡◌, take, ap, sym, ◌∙◌, ◌++◌, ◌∷◌, [], ◌<◌, length, arith, slice_index_or}
use Rattle.fuse_store_tables.specs.Content.{shown_open}
use Rattle.fuse_store_tree.proofs.ListingLemmas.{handle_none, row_at_is, each_at, more_taken, shown_length, any_default}
use Rattle.fuse_store_tree.proofs.handles.read_handles.Goals as goal

pub returns-in-Err-clause-fault : goal.returns-in-Err-clause-fault
returns-in-Err-clause-fault c hs all is =
    let i = c.loop-row.row-index in
    c.in-Err.ensures.fault (slice_index_or hs i handle_none)
    (row_at_is shown_open handle_none c.args.rows.now hs i c.row-item.result is (c.row-item.is ∙ any_default c.args.rows.now i c.row-item.result (shown_open handle_none)
    c.loop-row-test.true))

pub loop-row-preserved : goal.loop-row-preserved
loop-row-preserved c hs all is =
    let i = c.loop-row.row-index in
    let low : i < length hs = omega (arith, c.loop-row-test.true, shown_length shown_open c.args.rows.now hs is) in
    let h = slice_index_or hs i handle_none in
    let row = row_at_is shown_open handle_none c.args.rows.now hs i c.row-item.result is (c.row-item.is ∙ any_default c.args.rows.now i c.row-item.result (shown_open handle_none)
    c.loop-row-test.true) in
    let told = c.in-Ok.ensures.value h (each_at handle_none (λ x. x.node ≡ c.args.node) hs i low all) row in
    c.in_ok-push.ensures.items ∙ ap (λ l. l ++ c.in-Ok.handle ∷ []) (c.loop-row.invariant hs all is) ∙ ap (λ x. take i hs ++ x ∷ []) told
    ∙ sym (more_taken handle_none hs i low)
