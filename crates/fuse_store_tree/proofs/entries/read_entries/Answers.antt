use Rattle.std.proofs.Common.{◌≡◌, take, ap, sym, ◌∙◌, ◌++◌, ◌∷◌, [], ◌<◌, length, arith, slice_index_or}
use Rattle.fuse_store_tables.specs.Content.{shown_entry}
use Rattle.fuse_store_tree.proofs.ListingLemmas.{entry_shown, entry_none, row_at_is, each_at, more_taken, shown_length, any_default}
use Rattle.fuse_store_tree.proofs.entries.read_entries.Goals as goal

pub returns-in-Err-clause-fault : goal.returns-in-Err-clause-fault
returns-in-Err-clause-fault c es all is =
    let i = c.loop-row.row-index in
    let row = row_at_is shown_entry entry_none c.args.rows.now es i c.row-item.result is (c.row-item.is ∙ any_default c.args.rows.now i c.row-item.result (shown_entry entry_none)
    c.loop-row-test.true) in
    let at = entry_shown (slice_index_or es i entry_none) c.row-item.result row in
    c.in-Err.ensures.fault (slice_index_or es i entry_none) at.long at.cookie at.name at.child

pub loop-row-preserved : goal.loop-row-preserved
loop-row-preserved c es all is =
    let i = c.loop-row.row-index in
    let low : i < length es = omega (arith, c.loop-row-test.true, shown_length shown_entry c.args.rows.now es is) in
    let e = slice_index_or es i entry_none in
    let row = row_at_is shown_entry entry_none c.args.rows.now es i c.row-item.result is (c.row-item.is ∙ any_default c.args.rows.now i c.row-item.result (shown_entry entry_none)
    c.loop-row-test.true) in
    let at = entry_shown e c.row-item.result row in
    let told = c.in-Ok.ensures.value e (each_at entry_none (λ x. x.dir ≡ c.args.dir) es i low all) at.cookie at.name at.child in
    c.in_ok-push.ensures.items ∙ ap (λ l. l ++ c.in-Ok.entry ∷ []) (c.loop-row.invariant es all is) ∙ ap (λ x. take i es ++ x ∷ []) told
    ∙ sym (more_taken entry_none es i low)
