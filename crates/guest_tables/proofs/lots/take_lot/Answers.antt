use Rattle.std.proofs.Common.{arith, ◌∙◌}
use Rattle.sqlite.specs.Held.{state}
use Rattle.fuse_store_tables.specs.inner.Following.{earlier, stays_then}
use Rattle.guest_tables.proofs.NextLots.{takes_next, fails_stays, outside_next, value_next, fault_next, none_left}
use Rattle.guest_tables.proofs.lots.take_lot.Goals as goal

pub returns-in_err-rows-clause-taken : goal.returns-in_err-rows-clause-taken
returns-in_err-rows-clause-taken g c =
    fails_stays (state g.S.Store c.args.conn.now) (state g.S.Store c.select_counters.new.conn) c.from_residual.result c.from_residual.ensures.0
    c.in_err-rows.ensures.fails

pub returns-in_err-lot-clause-taken : goal.returns-in_err-lot-clause-taken
returns-in_err-lot-clause-taken g c =
    fails_stays (state g.S.Store c.args.conn.now) (state g.S.Store c.select_counters.new.conn) c.from_residual-in_err-lot.result
    c.from_residual-in_err-lot.ensures.0 c.in_ok-rows.ensures.looks.stays

pub returns-then-lot-ge-END-clause-taken : goal.returns-then-lot-ge-END-clause-taken
returns-then-lot-ge-END-clause-taken g c =
    record { stays = c.in_ok-rows.ensures.looks.stays; within = tt; turns = tt }

pub returns-in_err-add_lot-clause-taken : goal.returns-in_err-add_lot-clause-taken
returns-in_err-add_lot-clause-taken g c =
    let a = state g.S.Store c.args.conn.now in
    let b = state g.S.Store c.select_counters.new.conn in
    let d = state g.S.Store c.add_lot.new.conn in
    fails_stays a d c.from_residual-in_err-add_lot.result c.from_residual-in_err-add_lot.ensures.0
    (stays_then a b d c.in_ok-rows.ensures.looks.stays c.in_ok-rows.ensures.looks.within c.in_err-add_lot.ensures.stays)

pub returns-clause-taken : goal.returns-clause-taken
returns-clause-taken g c =
    let a = state g.S.Store c.args.conn.now in
    let b = state g.S.Store c.select_counters.new.conn in
    let d = state g.S.Store c.add_lot.new.conn in
    takes_next a b d c.in_ok-lot.lot _ c.in_ok-lot.lot c.in_ok-rows.ensures.looks (omega (arith, c.if-lot-ge-END.false))
    (value_next a b c.as_slice.result.now (λ clean k at. c.as_slice.ensures.value ∙ c.in_ok-rows.ensures.found clean k at) c.in_ok-lot.lot
    c.in_ok-lot.ensures.value) c.in_ok-add_lot.ensures

pub returns-clause-value : goal.returns-clause-value
returns-clause-value g c = λ clean.
    let a = state g.S.Store c.args.conn.now in
    let b = state g.S.Store c.select_counters.new.conn in
    let d = state g.S.Store c.add_lot.new.conn in
    value_next a b c.as_slice.result.now (λ clean k at. c.as_slice.ensures.value ∙ c.in_ok-rows.ensures.found clean k at) c.in_ok-lot.lot
    c.in_ok-lot.ensures.value (earlier b d _ c.in_ok-add_lot.ensures.stays.survives clean)

pub returns-in_err-rows-clause-fault : goal.returns-in_err-rows-clause-fault
returns-in_err-rows-clause-fault g c = λ clean.
    outside_next (state g.S.Store c.args.conn.now) _ c.from_residual.result c.from_residual.ensures.1

pub returns-in_err-lot-clause-fault : goal.returns-in_err-lot-clause-fault
returns-in_err-lot-clause-fault g c = λ clean.
    fault_next (state g.S.Store c.args.conn.now) (state g.S.Store c.select_counters.new.conn) c.as_slice.result.now
    (λ clean k at. c.as_slice.ensures.value ∙ c.in_ok-rows.ensures.found clean k at) _ c.from_residual-in_err-lot.result c.from_residual-in_err-lot.ensures.1
    c.in_err-lot.ensures.fault clean

pub returns-then-lot-ge-END-clause-fault : goal.returns-then-lot-ge-END-clause-fault
returns-then-lot-ge-END-clause-fault g c = λ clean.
    none_left (state g.S.Store c.args.conn.now) (state g.S.Store c.select_counters.new.conn) c.as_slice.result.now
    (λ clean k at. c.as_slice.ensures.value ∙ c.in_ok-rows.ensures.found clean k at) c.in_ok-lot.lot c.in_ok-lot.ensures.value
    (omega (arith, c.if-lot-ge-END.true)) clean

pub returns-in_err-add_lot-clause-fault : goal.returns-in_err-add_lot-clause-fault
returns-in_err-add_lot-clause-fault g c = λ clean.
    outside_next (state g.S.Store c.args.conn.now) _ c.from_residual-in_err-add_lot.result c.from_residual-in_err-add_lot.ensures.1
