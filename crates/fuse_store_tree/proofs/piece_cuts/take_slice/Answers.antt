use Rattle.std.proofs.Common.{[], subst, sym, ◌∙◌, true}
use Rattle.sqlite.specs.Held.{state}
use Rattle.fuse_store_tables.specs.inner.Following.{stays_then}
use Rattle.fuse_store_tree.specs.inner.Relisting.{EndsWithin, IsEndOf, Remembers, rows_extents}
use Rattle.fuse_store_tree.proofs.PieceSteps.{slice_taken, slice_read, slice_within}
use Rattle.fuse_store_tree.proofs.piece_cuts.take_slice.Goals as goal

pub returns-clause-taken : goal.returns-clause-taken
returns-clause-taken g c file =
    let next = c.in-Ok-end_of_slice.next in
    let on = c.in-Ok-end_of_slice.ensures.on in
    slice_taken true file c.args.node c.args.from c.args.to c.requires.some c.in-Ok.rows.items c.in-Ok-read_pieces.pieces.items next c.args.gone.now
    c.add_all.new.self (state g.S.Store c.args.conn.now) (state g.S.Store c.select_pieces.new.conn) (state g.S.Store c.delete_pieces.new.conn) _ _ on.0 on.1
    c.in-Ok.ensures.looks c.in-Ok.ensures.found (λ ps all is. c.in-Ok-read_pieces.ensures.value ps all (c.as_slice.ensures.value ∙ is))
    (subst (λ l. IsEndOf l c.args.to next) c.as_slice-2.ensures.value c.in-Ok-end_of_slice.ensures.value)
    (subst (λ l. Remembers (rows_extents l) c.args.gone.now c.add_all.new.self) c.as_slice-3.ensures.value c.in-Ok-add_all.ensures.remembers)
    c.in-Ok-delete_pieces.ensures

pub returns-in-Err-clause-fails : goal.returns-in-Err-clause-fails
returns-in-Err-clause-fails g c = c.in-Err.ensures.looks.stays

pub returns-in-Err-read_pieces-clause-fails : goal.returns-in-Err-read_pieces-clause-fails
returns-in-Err-read_pieces-clause-fails g c = c.in-Ok.ensures.looks.stays

pub returns-in-Err-end_of_slice-clause-fails : goal.returns-in-Err-end_of_slice-clause-fails
returns-in-Err-end_of_slice-clause-fails g c = c.in-Ok.ensures.looks.stays

pub returns-in-Err-add_all-clause-fails : goal.returns-in-Err-add_all-clause-fails
returns-in-Err-add_all-clause-fails g c = c.in-Ok.ensures.looks.stays

pub returns-in-Err-delete_pieces-clause-fails : goal.returns-in-Err-delete_pieces-clause-fails
returns-in-Err-delete_pieces-clause-fails g c =
    stays_then (state g.S.Store c.args.conn.now) (state g.S.Store c.select_pieces.new.conn) (state g.S.Store c.delete_pieces.new.conn) c.in-Ok.ensures.looks.stays
    c.in-Ok.ensures.looks.within c.in-Err-delete_pieces.ensures.stays

pub returns-in-Err-read_pieces-clause-fault : goal.returns-in-Err-read_pieces-clause-fault
returns-in-Err-read_pieces-clause-fault g c clean file k sound cut at =
    slice_read true file c.args.node c.args.from c.args.to c.requires.some c.in-Ok.rows.items [] (state g.S.Store c.select_pieces.new.conn)
    (state g.S.Store c.args.conn.now) c.in-Err-read_pieces.fault clean c.in-Ok.ensures.found
    (λ ps is. c.in-Err-read_pieces.ensures.fault ps (c.as_slice.ensures.value ∙ is)) k cut at

pub returns-in-Err-end_of_slice-clause-fault : goal.returns-in-Err-end_of_slice-clause-fault
returns-in-Err-end_of_slice-clause-fault g c clean file k sound cut at =
    slice_within true file c.args.node c.args.from c.args.to c.requires.some c.in-Ok.rows.items c.in-Ok-read_pieces.pieces.items
    (state g.S.Store c.select_pieces.new.conn) (state g.S.Store c.args.conn.now) c.in-Err-end_of_slice.fault clean c.in-Ok.ensures.found
    (λ ps all is. c.in-Ok-read_pieces.ensures.value ps all (c.as_slice.ensures.value ∙ is))
    (λ ends. c.in-Err-end_of_slice.ensures.fault (subst (λ l. EndsWithin l c.args.from c.args.to) (sym c.as_slice-2.ensures.value) ends)) k sound cut at
