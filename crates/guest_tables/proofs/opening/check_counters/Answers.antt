use Rattle.std.proofs.Common.{◌∙◌}
use Rattle.std.specs.Prelude.{⊤}
use Rattle.sqlite.specs.Held.{state}
use Rattle.guest_tables.specs.Opening.{IsMeta, LotsAreBelow}
use Rattle.guest_tables.specs.inner.Checking.{IsMetaIn, HasRowsOfMeta}
use Rattle.guest_tables.proofs.Checks.{checks_then, checks_failed}
use Rattle.guest_tables.proofs.opening.check_counters.Goals as goal

pub returns-in_err-meta : goal.returns-in_err-meta
returns-in_err-meta g c =
    checks_failed (λ _. ⊤) (λ _. ⊤) IsMeta HasRowsOfMeta (state g.S.Store c.args.conn.now) (state g.S.Store c.check_meta.new.conn) _ c.from_residual.result
    c.from_residual.ensures.1 (λ k is both. (tt, both.0)) c.in_err-meta.ensures.checks

pub returns : goal.returns
returns g c =
    checks_then (λ _. ⊤) (IsMetaIn c.as_slice.result.now) IsMeta LotsAreBelow (state g.S.Store c.args.conn.now) (state g.S.Store c.check_meta.new.conn)
    (state g.S.Store c.check_lots.new.conn) _ c.check_lots.result c.in_ok-meta.ensures.checks
    (λ clean k at known is. record { meta = is; are = c.as_slice.ensures.value ∙ c.in_ok-meta.ensures.shows clean k at }) c.check_lots.ensures
