use Rattle.std.proofs.Common.{ap, ◌∙◌}
use Rattle.std.proofs.lemmas.Result.{IfOk-weaker, IfErr-weaker}
use Rattle.sqlite.specs.Held.{state}
use Rattle.fuse_store_tables.specs.Content.{kept_key, at_by}
use Rattle.guest_tables.specs.Holding.{GuestHolding, records_in}
use Rattle.guest_tables.specs.Opening.{IsRecord}
use Rattle.guest_tables.proofs.FoundValues.{held_inside, held_at_rest, found_is}
use Rattle.fuse_store_tables.specs.inner.Following.{open_told, open_fails, rests_told, rests_failed}
use Rattle.guest_tables.specs.Content.{Holds}
use Rattle.guest_tables.specs.Moves.{Serves}
use Rattle.guest_tables.proofs.any_schema.Alone.{reads_told, reads_failed}
use Rattle.guest_tables.proofs.any_schema.Joining.{on_err}
use Rattle.guest_tables.proofs.found.find_answer.Goals as goal

pub returns-clause-value : goal.returns-clause-value
returns-clause-value g c clean =
    IfOk-weaker c.read_answer.result _ _ (λ n told y at.
    let here = held_inside y (state g.S.Store c.args.conn.now) at in
    told (at_by kept_key c.args.id here.0.kept) (c.as_slice.ensures.value ∙ c.in_ok-rows.ensures.found clean here.0 here.1)
    ∙ ap (λ (h : GuestHolding). records_in h c.args.id) here.2.1) c.read_answer.ensures.value

pub returns-clause-fault : goal.returns-clause-fault
returns-clause-fault g c clean =
    IfErr-weaker c.read_answer.result _ _ (λ f told y at fits.
    let here = held_inside y (state g.S.Store c.args.conn.now) at in
    told (at_by kept_key c.args.id here.0.kept) (found_is kept_key c.args.id IsRecord here.0.kept here.2.0.records)
    (c.as_slice.ensures.value ∙ c.in_ok-rows.ensures.found clean here.0 here.1)) c.read_answer.ensures.fault

-- ---- outside a transaction

pub returns-clause-value_at_rest : goal.returns-clause-value_at_rest
returns-clause-value_at_rest g c clean =
    IfOk-weaker c.read_answer.result _ _ (λ n told y at.
    let here = held_at_rest y (state g.S.Store c.args.conn.now) at in
    told (at_by kept_key c.args.id here.0.kept) (c.as_slice.ensures.value ∙ c.in_ok-rows.ensures.found_at_rest clean here.0 here.1)
    ∙ ap (λ (h : GuestHolding). records_in h c.args.id) here.2.1) c.read_answer.ensures.value

pub returns-clause-safe : goal.returns-clause-safe
returns-clause-safe g c clean =
    IfErr-weaker c.read_answer.result _ _ (λ f told y at fits.
    let here = held_at_rest y (state g.S.Store c.args.conn.now) at in
    told (at_by kept_key c.args.id here.0.kept) (found_is kept_key c.args.id IsRecord here.0.kept here.2.0.records)
    (c.as_slice.ensures.value ∙ c.in_ok-rows.ensures.found_at_rest clean here.0 here.1)) c.read_answer.ensures.fault

pub returns-in_err-rows-clause-rests : goal.returns-in_err-rows-clause-rests
returns-in_err-rows-clause-rests g c =
    on_err (Serves (λ k. k) (state g.S.Store c.args.conn.now) (state g.S.Store c.select_kept.new.conn)) c.from_residual.result c.from_residual.ensures.0
    (λ e. rests_failed Holds _ _ _ e c.in_err-rows.ensures.rests)

pub returns-clause-rests : goal.returns-clause-rests
returns-clause-rests g c =
    rests_told Holds (state g.S.Store c.args.conn.now) (state g.S.Store c.select_kept.new.conn) c.in_ok-rows.rows c.read_answer.result c.in_ok-rows.ensures.rests

pub returns-in_err-rows-clause-open : goal.returns-in_err-rows-clause-open
returns-in_err-rows-clause-open g c =
    open_fails (state g.S.Store c.args.conn.now) (state g.S.Store c.select_kept.new.conn) _ c.from_residual.result c.from_residual.ensures.0 c.in_err-rows.ensures.open

pub returns-clause-open : goal.returns-clause-open
returns-clause-open g c =
    open_told (state g.S.Store c.args.conn.now) (state g.S.Store c.select_kept.new.conn) c.in_ok-rows.rows c.read_answer.result c.in_ok-rows.ensures.open

-- ---- of any database

pub returns-in_err-rows-clause-reads : goal.returns-in_err-rows-clause-reads
returns-in_err-rows-clause-reads g c =
    reads_failed (state g.S.Store c.args.conn.now) (state g.S.Store c.select_kept.new.conn) _ c.from_residual.result c.from_residual.ensures.0
    c.in_err-rows.ensures.reads

pub returns-clause-reads : goal.returns-clause-reads
returns-clause-reads g c =
    reads_told (state g.S.Store c.args.conn.now) (state g.S.Store c.select_kept.new.conn) c.in_ok-rows.rows c.read_answer.result c.in_ok-rows.ensures.reads
