use Rattle.std.proofs.Common.{subst, sym, ◌∙◌}
use Rattle.sqlite.specs.Held.{state}
use Rattle.fuse_store_tree.specs.inner.Laws.{looked_fails, read_then}
use Rattle.fuse_store_tree.specs.inner.Listing.{CanList}
use Rattle.fuse_store_tree.proofs.Steps.{on_ok, on_error}
use Rattle.fuse_store_tree.proofs.ListedPieces.{overlaid_over, looked_over, piece_overlaid, row_overlaid, shown_kept, sure_wider, sure_over, sure_looked}
use Rattle.fuse_store_tree.proofs.piece_lists.list_piece.Goals as goal

pub returns-then-listed-clause-overlaid : goal.returns-then-listed-clause-overlaid
returns-then-listed-clause-overlaid g c =
    let f = g.C.Contents.file c.args.contents.now in
    let v = g.C.Contents.file c.list_extent-listed.new.contents in
    let w = g.C.Contents.file c.put_piece.new.contents in
    let a = state g.S.Store c.args.conn.now in
    let b = state g.S.Store c.can_list.new.conn in
    let d = state g.S.Store c.put_piece.new.conn in
    let row = c.row_of_made-row.result in
    let its = c.row_of_made-row.ensures in
    row_overlaid c.put_piece.result f w row c.args.node c.args.piece.first c.args.bytes.now a d its.node its.first
    (piece_overlaid f v w c.args.piece.extent (c.list_extent-listed.ensures.shows c.if-listed.true) c.put_piece.ensures.reads row its.extent c.args.bytes.now
    c.requires.whole c.requires.bytes c.put_piece.result a b d c.in-Ok.ensures.looks
    (λ clean k at fits. subst (λ n. CanList n k) (sym its.node)
    (c.in-Ok.ensures.value clean (c.list_extent-listed.ensures.allowed c.if-listed.true) k at fits)) c.put_piece.ensures.listed)

pub returns-then-listed-clause-fails : goal.returns-then-listed-clause-fails
returns-then-listed-clause-fails g c =
    on_error c.put_piece.result _ _ (looked_fails (state g.S.Store c.args.conn.now) (state g.S.Store c.can_list.new.conn) (state g.S.Store c.put_piece.new.conn)
    c.in-Ok.ensures.looks) c.put_piece.ensures.fails

pub returns-then-listed-clause-fault : goal.returns-then-listed-clause-fault
returns-then-listed-clause-fault g c read =
    let f = g.C.Contents.file c.args.contents.now in
    let v = g.C.Contents.file c.list_extent-listed.new.contents in
    let w = g.C.Contents.file c.put_piece.new.contents in
    sure_wider f.bytes w.bytes (state g.S.Store c.args.conn.now) (state g.S.Store c.can_list.new.conn) (state g.S.Store c.put_piece.new.conn) c.put_piece.result
    (shown_kept f v w c.args.piece.extent (c.list_extent-listed.ensures.shows c.if-listed.true) c.put_piece.ensures.reads) c.in-Ok.ensures.looks
    c.put_piece.ensures.fails (λ clean. c.put_piece.ensures.fault clean read)

pub returns-else-listed-clause-overlaid : goal.returns-else-listed-clause-overlaid
returns-else-listed-clause-overlaid g c =
    let f = g.C.Contents.file c.args.contents.now in
    let v = g.C.Contents.file c.list_extent-listed.new.contents in
    let w = g.C.Contents.file c.write_range.new.contents in
    let a = state g.S.Store c.args.conn.now in
    let b = state g.S.Store c.can_list.new.conn in
    let d = state g.S.Store c.write_range.new.conn in
    let node = c.args.node in
    let bytes = c.args.bytes.now in
    let reads = read_then f v w (c.list_extent-listed.ensures.same c.if-listed.false) c.write_range.ensures.reads in
    on_ok c.write_range.result _ _ (λ p. looked_over f w node _ bytes a b d c.in-Ok.ensures.looks (overlaid_over f w node _ bytes b d reads p))
    (rw c.from.ensures at c.write_range.ensures.overlaid)

pub returns-else-listed-clause-fails : goal.returns-else-listed-clause-fails
returns-else-listed-clause-fails g c =
    on_error c.write_range.result _ _ (looked_fails (state g.S.Store c.args.conn.now) (state g.S.Store c.can_list.new.conn) (state g.S.Store c.write_range.new.conn)
    c.in-Ok.ensures.looks) c.write_range.ensures.fails

pub returns-else-listed-clause-fault : goal.returns-else-listed-clause-fault
returns-else-listed-clause-fault g c read =
    let f = g.C.Contents.file c.args.contents.now in
    let v = g.C.Contents.file c.list_extent-listed.new.contents in
    let w = g.C.Contents.file c.write_range.new.contents in
    let b = state g.S.Store c.can_list.new.conn in
    let d = state g.S.Store c.write_range.new.conn in
    sure_looked f (state g.S.Store c.args.conn.now) b d c.write_range.result c.in-Ok.ensures.looks c.write_range.ensures.fails
    (sure_over f w b d c.write_range.result (read_then f v w (c.list_extent-listed.ensures.same c.if-listed.false) c.write_range.ensures.reads)
    (c.write_range.ensures.fault read))
