use Rattle.std.proofs.Common.{◌∙◌}
use Rattle.std.proofs.lemmas.Result.{on_ok_weaker, IfErr-weaker}
use Rattle.std.specs.Prelude.{⊤}
use Rattle.sqlite.specs.Held.{state}
use Rattle.guest_tables.specs.Opening.{AreRecords}
use Rattle.guest_tables.proofs.Checks.{query_failed, query_told}
use Rattle.guest_tables.proofs.record_checks.check_records.Goals as goal

pub returns-in_err-rows : goal.returns-in_err-rows
returns-in_err-rows g c =
    query_failed (λ _. ⊤) (λ k. AreRecords k.kept) (state g.S.Store c.args.conn.now) (state g.S.Store c.select_records.new.conn) _ c.from_residual.result
    c.from_residual.ensures.1 c.in_err-rows.ensures.laid c.in_err-rows.ensures.reads c.in_err-rows.ensures.within

pub returns : goal.returns
returns g c =
    query_told (λ _. ⊤) (λ k. AreRecords k.kept) (state g.S.Store c.args.conn.now) (state g.S.Store c.select_records.new.conn) c.in_ok-rows.rows
    c.check_rows.result c.in_ok-rows.ensures.laid c.in_ok-rows.ensures.reads c.in_ok-rows.ensures.within
    (λ clean. on_ok_weaker c.check_rows.result (λ whole k at any. whole k.kept (c.as_slice.ensures.value ∙ c.in_ok-rows.ensures.shows clean k at))
    c.check_rows.ensures.whole)
    (λ clean. IfErr-weaker c.check_rows.result _ _ (λ f out k at any are. out k.kept (c.as_slice.ensures.value ∙ c.in_ok-rows.ensures.shows clean k at) are)
    c.check_rows.ensures.fault)
    c.check_rows.ensures.plain
