use Rattle.std.specs.Prelude.{⊤}
use Rattle.sqlite.specs.Held.{state}
use Rattle.guest_tables.specs.Opening.{AreRecords}
use Rattle.guest_tables.specs.inner.Checking.{HasRowsOfMeta, HasRowsInOrder}
use Rattle.guest_tables.proofs.Checks.{checks_then, checks_failed}
use Rattle.guest_tables.proofs.opening.check.Goals as goal

pub returns-in_err-check_counters : goal.returns-in_err-check_counters
returns-in_err-check_counters g c =
    checks_failed (λ _. ⊤) (λ _. ⊤) HasRowsOfMeta HasRowsInOrder (state g.S.Store c.args.conn.now) (state g.S.Store c.check_counters.new.conn) _
    c.from_residual.result c.from_residual.ensures.1 (λ k is both. (tt, both.0)) c.in_err-check_counters.ensures

pub returns : goal.returns
returns g c =
    checks_then (λ _. ⊤) (λ _. ⊤) HasRowsOfMeta (λ k. AreRecords k.kept) (state g.S.Store c.args.conn.now) (state g.S.Store c.check_counters.new.conn)
    (state g.S.Store c.check_records.new.conn) _ c.check_records.result c.in_ok-check_counters.ensures (λ clean k at known is. tt) c.check_records.ensures
