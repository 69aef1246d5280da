use Rattle.sqlite.specs.Held.{state}
use Rattle.guest_store.specs.inner.Lotting.{lotting_next}
use Rattle.guest_store.proofs.Tables.{look_err, lot_step, lots_end}
use Rattle.guest_store.proofs.lots.take_next.Goals as goal

pub returns-in-Err-clause-steps : goal.returns-in-Err-clause-steps
returns-in-Err-clause-steps g c = λ t.
    look_err g.G.Guested.GUEST (lotting_next g.G.Guested.GUEST) (state g.S.Store c.args.conn.now) (state g.S.Store c.find_next_lot.new.conn) t c.in-Err.fault
    c.in-Err.ensures.fails c.in-Err.ensures.plain c.in-Err.ensures.fault

pub returns-then-lot-ge-END-clause-steps : goal.returns-then-lot-ge-END-clause-steps
returns-then-lot-ge-END-clause-steps g c = λ t.
    lots_end g.G.Guested.GUEST c.in-Ok.lot (state g.S.Store c.args.conn.now) (state g.S.Store c.find_next_lot.new.conn) t c.if-lot-ge-END.true
    c.in-Ok.ensures.looks c.in-Ok.ensures.value

pub returns-in-Ok-add_lot-clause-steps : goal.returns-in-Ok-add_lot-clause-steps
returns-in-Ok-add_lot-clause-steps g c = λ t.
    lot_step g.G.Guested.GUEST c.in-Ok.lot (state g.S.Store c.args.conn.now) (state g.S.Store c.find_next_lot.new.conn) (state g.S.Store c.add_lot.new.conn) t _
    c.if-lot-ge-END.false c.in-Ok.ensures.looks c.in-Ok.ensures.value c.in-Ok-add_lot.ensures
