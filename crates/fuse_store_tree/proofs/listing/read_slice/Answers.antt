use Rattle.std.proofs.Common.{◌≡◌, ◌≤◌, ◌<◌, ◌++◌, [], Err, ap, sym, length, take, filter, map, arith, ◌∙◌}
use Rattle.sqlite.specs.Held.{state}
use Rattle.fuse_store_tables.specs.declared.version.Layout.TheVariants.{Third}
use Rattle.fuse_store_tables.specs.Content.{HoldsIn}
use Rattle.fuse_store_tables.specs.Slices.{is_listed_above, shown_extent}
use Rattle.fuse_store_tables.specs.inner.Following.{rests_told}
use Rattle.fuse_store_tree.specs.Listings.{extents_above}
use Rattle.fuse_store_tree.specs.Pieces.{extent_of}
use Rattle.fuse_store_tree.proofs.ListingLemmas.{shown_length}
use Rattle.fuse_store_tree.proofs.PieceSlots.{pieces_rise}
use Rattle.fuse_store_tree.proofs.ListedRows.{appended, slice_ends, slice_before, slice_goes_on, sums_taken, taken_rows}
use Rattle.fuse_store_tree.proofs.listing.read_slice.Goals as goal

pub returns-in-Err-clause-rests : goal.returns-in-Err-clause-rests
returns-in-Err-clause-rests g c =
    rests_told (HoldsIn Third) (state g.S.Store c.args.conn.now) (state g.S.Store c.select_listed_pieces.new.conn) c.in_ok-rows.rows (Err c.in-Err.fault)
    c.in_ok-rows.ensures.rests

pub returns-in-Err-clause-fault : goal.returns-in-Err-clause-fault
returns-in-Err-clause-fault g c clean k at fits =
    let xs = filter (is_listed_above c.args.slot) k.pieces in
    c.in-Err.ensures.fault (take 1024 xs) (c.as_slice.ensures.value ∙ c.in_ok-rows.ensures.found clean k at ∙ taken_rows 1024 xs)

pub returns-then-len-lt-SLICE-clause-extents : goal.returns-then-len-lt-SLICE-clause-extents
returns-then-len-lt-SLICE-clause-extents g c clean k at fits =
    let xs = filter (is_listed_above c.args.slot) k.pieces in
    let rows = c.in_ok-rows.ensures.found clean k at ∙ taken_rows 1024 xs in
    let count : c.len.result ≡ length (take 1024 xs) =
    c.len.ensures ∙ sym c.as_slice.ensures.len ∙ ap length c.as_slice.ensures.value ∙ shown_length shown_extent c.in_ok-rows.rows.items (take 1024 xs) rows in
    let short : length (take 1024 xs) < 1024 = omega (arith, count, c.if-len-lt-SLICE.true) in
    ap (λ l. l ++ []) (c.in-Ok.ensures.extents (take 1024 xs) (sums_taken 1024 c.args.slot k.pieces fits.pieces) (c.as_slice.ensures.value ∙ rows))
    ∙ appended c.args.extents.now.items (map extent_of (take 1024 xs)) []
    ∙ ap (λ l. c.args.extents.now.items ++ l) (slice_ends 1024 c.args.slot k.pieces c.requires short)

pub returns-then-last-slot-clause-fault : goal.returns-then-last-slot-clause-fault
returns-then-last-slot-clause-fault g c clean k at fits =
    let xs = filter (is_listed_above c.args.slot) k.pieces in
    let rows = c.in_ok-rows.ensures.found clean k at ∙ taken_rows 1024 xs in
    let count : c.len.result ≡ length (take 1024 xs) =
    c.len.ensures ∙ sym c.as_slice.ensures.len ∙ ap length c.as_slice.ensures.value ∙ shown_length shown_extent c.in_ok-rows.rows.items (take 1024 xs) rows in
    let last = c.in-Ok.ensures.last (take 1024 xs) (sums_taken 1024 c.args.slot k.pieces fits.pieces) (c.as_slice.ensures.value ∙ rows) in
    let on = slice_goes_on 1024 c.args.slot k.pieces (let some : 1 ≤ length (take 1024 xs) = omega (arith, count, c.if-len-lt-SLICE.false) in some) in
    omega (arith, last, on, c.if-last-slot.true)

pub returns-clause-extents : goal.returns-clause-extents
returns-clause-extents g c clean k at fits =
    let xs = filter (is_listed_above c.args.slot) k.pieces in
    let rows = c.as_slice.ensures.value ∙ c.in_ok-rows.ensures.found clean k at ∙ taken_rows 1024 xs in
    let sums = sums_taken 1024 c.args.slot k.pieces fits.pieces in
    ap (λ l. l ++ extents_above c.in-Ok.last k.pieces) (c.in-Ok.ensures.extents (take 1024 xs) sums rows)
    ∙ appended c.args.extents.now.items (map extent_of (take 1024 xs)) (extents_above c.in-Ok.last k.pieces)
    ∙ ap (λ l. c.args.extents.now.items ++ l)
    (slice_before 1024 c.args.slot c.in-Ok.last k.pieces (pieces_rise k (state g.S.Store c.args.conn.now).now at.holds.0 at.holds.1) c.requires c.in-Ok.ensures.small
    (c.in-Ok.ensures.last (take 1024 xs) sums rows))
