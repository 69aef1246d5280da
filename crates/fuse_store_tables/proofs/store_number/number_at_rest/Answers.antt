use Rattle.std.proofs.Common.{◌∙◌}
use Rattle.sqlite.specs.Held.{state}
use Rattle.fuse_store_tables.specs.Content.{Holds}
use Rattle.fuse_store_tables.specs.Moves.{Serves}
use Rattle.fuse_store_tables.specs.inner.Following.{rests_told, rests_failed, open_told, open_fails}
use Rattle.fuse_store_tables.proofs.Joining.{on_err}
use Rattle.fuse_store_tables.proofs.Alone.{reads_told, reads_failed}
use Rattle.fuse_store_tables.proofs.StoreNumbers.{told_number, told_fault}
use Rattle.fuse_store_tables.proofs.store_number.number_at_rest.Goals as goal

pub returns-clause-value : goal.returns-clause-value
returns-clause-value g c clean =
    told_number c.the_number.result c.as_slice.result.now (state g.S.Store c.args.conn.now)
    (λ k at. c.as_slice.ensures.value ∙ c.in_ok-rows.ensures.found clean k at) c.the_number.ensures.value c.the_number.ensures.some

pub returns-clause-fault : goal.returns-clause-fault
returns-clause-fault g c clean =
    told_fault c.the_number.result c.as_slice.result.now (state g.S.Store c.args.conn.now)
    (λ k at. c.as_slice.ensures.value ∙ c.in_ok-rows.ensures.found clean k at) c.the_number.ensures.fault

pub returns-in_err-rows-clause-rests : goal.returns-in_err-rows-clause-rests
returns-in_err-rows-clause-rests g c =
    on_err (Serves (λ k. k) (state g.S.Store c.args.conn.now) (state g.S.Store c.select_number.new.conn)) c.from_residual.result c.from_residual.ensures.0
    (λ e. rests_failed Holds _ _ _ e c.in_err-rows.ensures.rests)

pub returns-clause-rests : goal.returns-clause-rests
returns-clause-rests g c =
    rests_told Holds (state g.S.Store c.args.conn.now) (state g.S.Store c.select_number.new.conn) c.in_ok-rows.rows c.the_number.result
    c.in_ok-rows.ensures.rests

pub returns-in_err-rows-clause-open : goal.returns-in_err-rows-clause-open
returns-in_err-rows-clause-open g c =
    open_fails (state g.S.Store c.args.conn.now) (state g.S.Store c.select_number.new.conn) _ c.from_residual.result c.from_residual.ensures.0
    c.in_err-rows.ensures.open

pub returns-clause-open : goal.returns-clause-open
returns-clause-open g c =
    open_told (state g.S.Store c.args.conn.now) (state g.S.Store c.select_number.new.conn) c.in_ok-rows.rows c.the_number.result c.in_ok-rows.ensures.open

pub returns-in_err-rows-clause-reads : goal.returns-in_err-rows-clause-reads
returns-in_err-rows-clause-reads g c =
    reads_failed (state g.S.Store c.args.conn.now) (state g.S.Store c.select_number.new.conn) _ c.from_residual.result c.from_residual.ensures.0
    c.in_err-rows.ensures.reads

pub returns-clause-reads : goal.returns-clause-reads
returns-clause-reads g c =
    reads_told (state g.S.Store c.args.conn.now) (state g.S.Store c.select_number.new.conn) c.in_ok-rows.rows c.the_number.result c.in_ok-rows.ensures.reads
