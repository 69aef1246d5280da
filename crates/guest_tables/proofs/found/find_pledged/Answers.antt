use Rattle.std.proofs.Common.{ap, ◌∙◌}
use Rattle.std.proofs.lemmas.Result.{IfOk-weaker, IfErr-weaker}
use Rattle.sqlite.specs.Held.{state}
use Rattle.fuse_store_tables.specs.inner.Following.{rests_told, rests_failed}
use Rattle.guest_tables.specs.Content.{Holds}
use Rattle.guest_tables.specs.Holding.{GuestHolding}
use Rattle.guest_tables.specs.Moves.{Serves}
use Rattle.guest_tables.proofs.FoundValues.{held_at_rest, last_is}
use Rattle.guest_tables.proofs.any_schema.Alone.{reads_told, reads_failed}
use Rattle.guest_tables.proofs.any_schema.Joining.{on_err}
use Rattle.guest_tables.proofs.found.find_pledged.Goals as goal

pub returns-clause-value_at_rest : goal.returns-clause-value_at_rest
returns-clause-value_at_rest g c clean =
    IfOk-weaker c.value_at.result _ _ (λ n told y at.
    let here = held_at_rest y (state g.S.Store c.args.conn.now) at in
    let last = last_is here.0 here.2.0.meta.meta in
    told here.0.counters (c.as_slice.ensures.value ∙ c.in_ok-rows.ensures.found_at_rest clean here.0 here.1) last.low ∙ last.is
    ∙ ap (λ (h : GuestHolding). h.state.pledged) here.2.1) c.value_at.ensures.value

pub returns-clause-safe : goal.returns-clause-safe
returns-clause-safe g c clean =
    IfErr-weaker c.value_at.result _ _ (λ f told y at.
    let here = held_at_rest y (state g.S.Store c.args.conn.now) at in
    let last = last_is here.0 here.2.0.meta.meta in
    told here.0.counters (c.as_slice.ensures.value ∙ c.in_ok-rows.ensures.found_at_rest clean here.0 here.1) last.long) c.value_at.ensures.fault

pub returns-in_err-rows-clause-rests : goal.returns-in_err-rows-clause-rests
returns-in_err-rows-clause-rests g c =
    on_err (Serves (λ k. k) (state g.S.Store c.args.conn.now) (state g.S.Store c.select_counters.new.conn)) c.from_residual.result c.from_residual.ensures.0
    (λ e. rests_failed Holds _ _ _ e c.in_err-rows.ensures.rests)

pub returns-clause-rests : goal.returns-clause-rests
returns-clause-rests g c =
    rests_told Holds (state g.S.Store c.args.conn.now) (state g.S.Store c.select_counters.new.conn) c.in_ok-rows.rows c.value_at.result c.in_ok-rows.ensures.rests

pub returns-in_err-rows-clause-reads : goal.returns-in_err-rows-clause-reads
returns-in_err-rows-clause-reads g c =
    reads_failed (state g.S.Store c.args.conn.now) (state g.S.Store c.select_counters.new.conn) _ c.from_residual.result c.from_residual.ensures.0
    c.in_err-rows.ensures.reads

pub returns-clause-reads : goal.returns-clause-reads
returns-clause-reads g c =
    reads_told (state g.S.Store c.args.conn.now) (state g.S.Store c.select_counters.new.conn) c.in_ok-rows.rows c.value_at.result c.in_ok-rows.ensures.reads
