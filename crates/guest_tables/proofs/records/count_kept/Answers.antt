use Rattle.std.proofs.Common.{◌∙◌, length}
use Rattle.sqlite.specs.Held.{state}
use Rattle.guest_tables.specs.Content.{Holds}
use Rattle.guest_tables.specs.Moves.{Rests, Serves}
use Rattle.fuse_store_tables.specs.inner.Following.{rests_told, rests_failed}
use Rattle.guest_tables.proofs.any_schema.Joining.{on_err}
use Rattle.guest_tables.proofs.RecordCounts.{told_value, told_fault}
use Rattle.fuse_store_tables.specs.inner.Following.{open_told, open_fails}
use Rattle.guest_tables.proofs.any_schema.Alone.{reads_told, reads_failed}
use Rattle.guest_tables.proofs.records.count_kept.Goals as goal

pub returns-in_err-rows-clause-rests : goal.returns-in_err-rows-clause-rests
returns-in_err-rows-clause-rests g c =
    on_err (Serves (λ k. k) (state g.S.Store c.args.conn.now) (state g.S.Store c.select_count.new.conn)) c.from_residual.result c.from_residual.ensures.0
    (λ e. rests_failed Holds _ _ _ e c.in_err-rows.ensures.rests)

pub returns-clause-rests : goal.returns-clause-rests
returns-clause-rests g c = rests_told Holds (state g.S.Store c.args.conn.now) (state g.S.Store c.select_count.new.conn) c.in_ok-rows.rows c.the_count.result
    c.in_ok-rows.ensures.rests

pub returns-clause-value : goal.returns-clause-value
returns-clause-value g c clean = told_value c.the_count.result c.as_slice.result.now (λ k. Rests k (state g.S.Store c.args.conn.now)) (λ k. length k.kept)
    (λ k at. c.as_slice.ensures.value ∙ c.in_ok-rows.ensures.found clean k at) c.the_count.ensures.value

pub returns-clause-fault : goal.returns-clause-fault
returns-clause-fault g c clean = told_fault c.the_count.result c.as_slice.result.now (λ k. Rests k (state g.S.Store c.args.conn.now)) (λ k. length k.kept)
    (λ k at. c.as_slice.ensures.value ∙ c.in_ok-rows.ensures.found clean k at) c.the_count.ensures.fault

pub returns-in_err-rows-clause-open : goal.returns-in_err-rows-clause-open
returns-in_err-rows-clause-open g c =
    open_fails (state g.S.Store c.args.conn.now) (state g.S.Store c.select_count.new.conn) _ c.from_residual.result c.from_residual.ensures.0
    c.in_err-rows.ensures.open

pub returns-clause-open : goal.returns-clause-open
returns-clause-open g c =
    open_told (state g.S.Store c.args.conn.now) (state g.S.Store c.select_count.new.conn) c.in_ok-rows.rows c.the_count.result c.in_ok-rows.ensures.open

pub returns-in_err-rows-clause-reads : goal.returns-in_err-rows-clause-reads
returns-in_err-rows-clause-reads g c =
    reads_failed (state g.S.Store c.args.conn.now) (state g.S.Store c.select_count.new.conn) _ c.from_residual.result c.from_residual.ensures.0
    c.in_err-rows.ensures.reads

pub returns-clause-reads : goal.returns-clause-reads
returns-clause-reads g c =
    reads_told (state g.S.Store c.args.conn.now) (state g.S.Store c.select_count.new.conn) c.in_ok-rows.rows c.the_count.result c.in_ok-rows.ensures.reads
