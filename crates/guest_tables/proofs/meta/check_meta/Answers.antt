use Rattle.std.proofs.Common.{Ok, Err, ◌∙◌}
use Rattle.std.specs.Prelude.{⊤}
use Rattle.sqlite.specs.Held.{state}
use Rattle.guest_tables.specs.Opening.{IsMeta}
use Rattle.guest_tables.proofs.Checks.{query_failed, query_told, checks_failed}
use Rattle.guest_tables.proofs.meta.check_meta.Goals as goal

pub returns-in_err-rows-clause-checks : goal.returns-in_err-rows-clause-checks
returns-in_err-rows-clause-checks g c =
    query_failed (λ _. ⊤) IsMeta (state g.S.Store c.args.conn.now) (state g.S.Store c.select_meta.new.conn) _ c.from_residual.result
    c.from_residual.ensures.1 c.in_err-rows.ensures.laid c.in_err-rows.ensures.reads c.in_err-rows.ensures.within

pub returns-in_err-check_meta_rows-clause-checks : goal.returns-in_err-check_meta_rows-clause-checks
returns-in_err-check_meta_rows-clause-checks g c =
    let a = state g.S.Store c.args.conn.now in
    let b = state g.S.Store c.select_meta.new.conn in
    checks_failed (λ _. ⊤) (λ _. ⊤) IsMeta IsMeta a b _ c.from_residual-in_err-check_meta_rows.result
    c.from_residual-in_err-check_meta_rows.ensures.1 (λ k any is. (tt, is))
    (query_told {Y = Unit {0}} (λ _. ⊤) IsMeta a b _ (Err _) c.in_ok-rows.ensures.laid c.in_ok-rows.ensures.reads c.in_ok-rows.ensures.within
    (λ clean. tt) (λ clean k at any is. c.in_err-check_meta_rows.ensures.fault k.counters (c.as_slice.ensures.value ∙ c.in_ok-rows.ensures.shows clean k at) is)
    c.in_err-check_meta_rows.ensures.plain)

pub returns-clause-checks : goal.returns-clause-checks
returns-clause-checks g c =
    query_told (λ _. ⊤) IsMeta (state g.S.Store c.args.conn.now) (state g.S.Store c.select_meta.new.conn) _ (Ok _) c.in_ok-rows.ensures.laid
    c.in_ok-rows.ensures.reads c.in_ok-rows.ensures.within
    (λ clean k at any. c.in_ok-check_meta_rows.ensures.whole k.counters (c.as_slice.ensures.value ∙ c.in_ok-rows.ensures.shows clean k at) at.holds.bits)
    (λ clean. tt) tt
