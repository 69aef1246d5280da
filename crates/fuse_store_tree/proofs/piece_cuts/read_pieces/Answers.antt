use Rattle.std.proofs.Common.{◌≡◌, ◌++◌, ◌∷◌, [], ◌<◌, ◌^◌, map, take, ap, sym, ◌∙◌, length, arith, slice_index_or}
use Rattle.std.proofs.lemmas.List.{map-append}
use Rattle.fuse_store_tables.specs.Pieces.{Piece, shown_piece}
use Rattle.fuse_store_tables.specs.Ranges.{row_of}
use Rattle.fuse_store_tree.proofs.ListingLemmas.{row_at_is, each_at, more_taken, shown_length, any_default}
use Rattle.fuse_store_tree.proofs.PieceSteps.{no_piece}
use Rattle.fuse_store_tree.proofs.piece_cuts.read_pieces.Goals as goal

pub returns-in-Err-clause-fault : goal.returns-in-Err-clause-fault
returns-in-Err-clause-fault c ps is =
    let i = c.loop-row.row-index in
    c.in-Err.ensures.fault (slice_index_or ps i no_piece)
    (row_at_is shown_piece no_piece c.args.rows.now ps i c.row-item.result is (c.row-item.is ∙ any_default c.args.rows.now i c.row-item.result (shown_piece no_piece)
    c.loop-row-test.true))

pub loop-row-preserved : goal.loop-row-preserved
loop-row-preserved c ps all is =
    let i = c.loop-row.row-index in
    let low : i < length ps = omega (arith, c.loop-row-test.true, shown_length shown_piece c.args.rows.now ps is) in
    let p = slice_index_or ps i no_piece in
    let row = row_at_is shown_piece no_piece c.args.rows.now ps i c.row-item.result is (c.row-item.is ∙ any_default c.args.rows.now i c.row-item.result (shown_piece no_piece)
    c.loop-row-test.true) in
    let known = each_at no_piece (λ (x : Piece). (x.node ≡ c.args.node) × (x.sum < 2 ^ 64)) ps i low all in
    let told = c.in-Ok.ensures.value p known.0 known.1 row in
    c.in_ok-push.ensures.items ∙ ap (λ l. l ++ c.in-Ok.piece ∷ []) (c.loop-row.invariant ps all is) ∙ ap (λ x. map row_of (take i ps) ++ x ∷ []) told
    ∙ sym (ap (map row_of) (more_taken no_piece ps i low) ∙ map-append row_of (take i ps) (p ∷ []))
