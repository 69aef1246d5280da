use Rattle.std.proofs.Common.{◌≡◌, ◌<◌, ◌^◌, ◌++◌, ◌∷◌, [], refl, length, arith, ap, sym, ◌∙◌, slice_index_or}
use Rattle.fuse_store_tables.specs.Pieces.{Piece}
use Rattle.fuse_store_tables.specs.Slices.{shown_extent}
use Rattle.fuse_store_tree.specs.inner.Showing.{extent_in}
use Rattle.fuse_store_tree.proofs.ListingLemmas.{row_at_is, each_at, more_taken, shown_length, any_default}
use Rattle.fuse_store_tree.proofs.PieceSteps.{no_piece}
use Rattle.fuse_store_tree.proofs.ListedRows.{as_piece, last_more, extents_more, nothing_more}
use Rattle.fuse_store_tree.proofs.listing.add_rows.Goals as goal

pub returns-in-Err-clause-fault : goal.returns-in-Err-clause-fault
returns-in-Err-clause-fault c ps is =
    let i = c.loop-row.row-index in
    c.in-Err.ensures.fault (as_piece (slice_index_or ps i no_piece))
    (row_at_is shown_extent no_piece c.args.rows.now ps i c.row-item.result is (c.row-item.is ∙ any_default c.args.rows.now i c.row-item.result (shown_extent no_piece)
    c.loop-row-test.true))

pub loop-row-init : goal.loop-row-init
loop-row-init c = record { items = λ ps all is. sym (nothing_more c.args.extents.now.items); last = λ ps all is. refl; small = c.requires }

pub loop-row-preserved : goal.loop-row-preserved
loop-row-preserved c =
    let i = c.loop-row.row-index in
    let fits = c.in-Ok.ensures.fits (omega arith) in
    record {
      items = λ ps all is.
          let low : i < length ps = omega (arith, c.loop-row-test.true, shown_length shown_extent c.args.rows.now ps is) in
          let p = slice_index_or ps i no_piece in
          let row = row_at_is shown_extent no_piece c.args.rows.now ps i c.row-item.result is (c.row-item.is ∙ any_default c.args.rows.now i c.row-item.result (shown_extent no_piece)
          c.loop-row-test.true) in
          let told = c.in-Ok.ensures.value (as_piece p) refl (each_at no_piece (λ (x : Piece). x.sum < 2 ^ 64) ps i low all) row in
          extents_more c.args.extents.now.items c.push.new.self.items ps _ i p c.extent_of.result
          (c.in_ok-push.ensures.items ∙ ap (λ l. l ++ c.extent_of.result ∷ []) (c.loop-row.invariant.items ps all is))
          (c.extent_of.ensures ∙ ap extent_in told) (more_taken no_piece ps i low);
      last = λ ps all is.
          let low : i < length ps = omega (arith, c.loop-row-test.true, shown_length shown_extent c.args.rows.now ps is) in
          let p = slice_index_or ps i no_piece in
          let row = row_at_is shown_extent no_piece c.args.rows.now ps i c.row-item.result is (c.row-item.is ∙ any_default c.args.rows.now i c.row-item.result (shown_extent no_piece)
          c.loop-row-test.true) in
          let told = c.in-Ok.ensures.value (as_piece p) refl (each_at no_piece (λ (x : Piece). x.sum < 2 ^ 64) ps i low all) row in
          ap (λ r. r.first) told ∙ sym (last_more c.args.slot ps _ i p (more_taken no_piece ps i low));
      small = fits.first;
    }
