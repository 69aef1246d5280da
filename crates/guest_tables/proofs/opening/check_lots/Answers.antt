use Rattle.std.proofs.Common.{Vec}
use Rattle.std.specs.Global.{Global}
use Rattle.sqlite.specs.Held.{state}
use Rattle.sqlite.specs.Order.{Row}
use Rattle.guest_tables.specs.inner.Checking.{IsMetaIn}
use Rattle.guest_tables.proofs.Checks.{nothing_asked}
use Rattle.guest_tables.proofs.LotChecks.{checks_lots, fails_lots}
use Rattle.guest_tables.proofs.opening.check_lots.Goals as goal

pub returns-in_err-next : goal.returns-in_err-next
returns-in_err-next g c =
    nothing_asked (IsMetaIn c.args.meta.now) _ (state g.S.Store c.args.conn.now) _ c.from_residual.result c.from_residual.ensures.1 c.in_err-next.ensures.plain
    c.in_err-next.ensures.fault

pub returns-in_err-rows : goal.returns-in_err-rows
returns-in_err-rows g c =
    fails_lots c.in_ok-next.next c.args.meta.now c.in_ok-next.ensures.value (λ (found : Vec Row Global). found.items)
    (state g.S.Store c.args.conn.now) (state g.S.Store c.query_all.new.self) _ c.from_residual-in_err-rows.result
    (rw c.number-values.ensures at c.in_err-rows.ensures.err) (rw c.number-values.ensures at c.in_err-rows.ensures.survives) c.from_residual-in_err-rows.ensures.1

pub returns : goal.returns
returns g c =
    checks_lots c.in_ok-next.next c.args.meta.now c.in_ok-next.ensures.value (λ (found : Vec Row Global). found.items)
    (state g.S.Store c.args.conn.now) (state g.S.Store c.query_all.new.self) c.in_ok-rows.rows c.check_none.result
    (rw c.number-values.ensures at c.in_ok-rows.ensures.ok) (rw c.number-values.ensures at c.in_ok-rows.ensures.survives)
    (rw c.as_slice.ensures.value at c.check_none.ensures.none) (rw c.as_slice.ensures.value at c.check_none.ensures.some) c.check_none.ensures.plain
