use Rattle.std.proofs.Common.{ap, ◌∙◌}
use Rattle.std.proofs.lemmas.Result.{IfOk-weaker, IfErr-weaker}
use Rattle.sqlite.specs.Held.{state}
use Rattle.guest_tables.specs.Holding.{GuestHolding}
use Rattle.guest_tables.proofs.FoundValues.{held_inside}
use Rattle.guest_tables.proofs.found.find_next_lot.Goals as goal

pub returns-clause-value : goal.returns-clause-value
returns-clause-value g c clean =
    IfOk-weaker c.next_lot_of.result _ _ (λ n told y at.
    let here = held_inside y (state g.S.Store c.args.conn.now) at in
    told here.0 here.2.0.meta.meta (c.as_slice.ensures.value ∙ c.in_ok-rows.ensures.found clean here.0 here.1)
    ∙ ap (λ (h : GuestHolding). h.next_lot) here.2.1) c.next_lot_of.ensures.value

pub returns-clause-fault : goal.returns-clause-fault
returns-clause-fault g c clean =
    IfErr-weaker c.next_lot_of.result _ _ (λ f told y at.
    let here = held_inside y (state g.S.Store c.args.conn.now) at in
    told here.0 here.2.0.meta.meta (c.as_slice.ensures.value ∙ c.in_ok-rows.ensures.found clean here.0 here.1)) c.next_lot_of.ensures.fault
