use Rattle.std.proofs.Common.{◌∙◌}
use Rattle.sqlite.specs.Held.{state}
use Rattle.fuse_store_tables.specs.Content.{Holds}
use Rattle.fuse_store_tables.specs.Moves.{Rests, Serves}
use Rattle.fuse_store_tables.specs.inner.Following.{rests_told, rests_failed, open_told, open_fails}
use Rattle.fuse_store_tables.proofs.Joining.{on_err}
use Rattle.fuse_store_tables.proofs.Alone.{reads_told, reads_failed}
use Rattle.fuse_store_tables.proofs.Sums.{told_sum, told_outside}
use Rattle.fuse_store_tables.proofs.nodes.sum_sizes.Goals as goal

pub returns-in_err-sums-clause-rests : goal.returns-in_err-sums-clause-rests
returns-in_err-sums-clause-rests g c =
    on_err (Serves (λ k. k) (state g.S.Store c.args.conn.now) (state g.S.Store c.select_sizes.new.conn)) c.from_residual.result c.from_residual.ensures.0
    (λ e. rests_failed Holds _ _ _ e c.in_err-sums.ensures.rests)

pub returns-clause-rests : goal.returns-clause-rests
returns-clause-rests g c = rests_told Holds (state g.S.Store c.args.conn.now) (state g.S.Store c.select_sizes.new.conn) c.in_ok-sums.sums c.the_number.result
    c.in_ok-sums.ensures.rests

pub returns-in_err-sums-clause-open : goal.returns-in_err-sums-clause-open
returns-in_err-sums-clause-open g c =
    open_fails (state g.S.Store c.args.conn.now) (state g.S.Store c.select_sizes.new.conn) _ c.from_residual.result c.from_residual.ensures.0
    c.in_err-sums.ensures.open

pub returns-clause-open : goal.returns-clause-open
returns-clause-open g c =
    open_told (state g.S.Store c.args.conn.now) (state g.S.Store c.select_sizes.new.conn) c.in_ok-sums.sums c.the_number.result c.in_ok-sums.ensures.open

pub returns-in_err-sums-clause-reads : goal.returns-in_err-sums-clause-reads
returns-in_err-sums-clause-reads g c =
    reads_failed (state g.S.Store c.args.conn.now) (state g.S.Store c.select_sizes.new.conn) _ c.from_residual.result c.from_residual.ensures.0
    c.in_err-sums.ensures.reads

pub returns-clause-reads : goal.returns-clause-reads
returns-clause-reads g c =
    reads_told (state g.S.Store c.args.conn.now) (state g.S.Store c.select_sizes.new.conn) c.in_ok-sums.sums c.the_number.result c.in_ok-sums.ensures.reads

pub returns-clause-value : goal.returns-clause-value
returns-clause-value g c clean = told_sum c.the_number.result c.as_slice.result.now (λ k. Rests k (state g.S.Store c.args.conn.now))
    (λ k at. c.as_slice.ensures.value ∙ c.in_ok-sums.ensures.found clean k at) c.the_number.ensures.value

pub returns-clause-fault : goal.returns-clause-fault
returns-clause-fault g c clean = told_outside c.the_number.result c.as_slice.result.now (λ k. Rests k (state g.S.Store c.args.conn.now))
    (λ k at. c.as_slice.ensures.value ∙ c.in_ok-sums.ensures.found clean k at) c.the_number.ensures.fault
