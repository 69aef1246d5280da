use Rattle.std.proofs.Common.{arith, ◌∙◌}
use Rattle.sqlite.specs.Held.{state}
use Rattle.fuse_store_tree.proofs.Looks.{map_ok, map_err}
use Rattle.fuse_tree.specs.Rowed.{rowed}
use Rattle.fuse_store_tree.proofs.Once.{counted_back}
use Rattle.fuse_store_tree.proofs.Rests.{counters_held, counters_shown, failed_for, read_for}
use Rattle.fuse_store_tables.specs.inner.Following.{open_told, open_fails}
use Rattle.fuse_store_tree.proofs.OnlyReading.{reads_told, reads_failed}
use Rattle.fuse_store_tree.proofs.reads.counters_at_rest.Goals as goal

pub returns-in_err-rows-clause-serves : goal.returns-in_err-rows-clause-serves
returns-in_err-rows-clause-serves g c file =
    failed_for file (state g.S.Store c.args.conn.now) (state g.S.Store c.select_counters.new.conn) _ c.from_residual.result c.from_residual.ensures.0
    c.in_err-rows.ensures.rests

pub returns-clause-serves : goal.returns-clause-serves
returns-clause-serves g c file =
    read_for file (state g.S.Store c.args.conn.now) (state g.S.Store c.select_counters.new.conn) c.in_ok-rows.rows c.read_counters.result c.in_ok-rows.ensures.rests

pub returns-clause-value : goal.returns-clause-value
returns-clause-value g c =
    map_ok c.read_counters.result _ _ (λ r told file clean y at. told (counters_held y at.holds.held.2.number) (counters_shown file y (state g.S.Store c.args.conn.now) c.as_slice.result.now
    (λ k here. c.as_slice.ensures.value ∙ c.in_ok-rows.ensures.found_at_rest clean k here) at)
    ∙ counted_back (rowed y.tree).counters (rowed y.tree).settings y.next_lot at.holds.held.2.number) c.read_counters.ensures.value

pub returns-clause-fault : goal.returns-clause-fault
returns-clause-fault g c file clean =
    map_err c.read_counters.result _ _ (λ f told y at. told (counters_held y at.holds.held.2.number) (counters_shown file y (state g.S.Store c.args.conn.now) c.as_slice.result.now
    (λ k here. c.as_slice.ensures.value ∙ c.in_ok-rows.ensures.found_at_rest clean k here) at) (omega arith)) c.read_counters.ensures.fault

pub returns-in_err-rows-clause-open : goal.returns-in_err-rows-clause-open
returns-in_err-rows-clause-open g c =
    open_fails (state g.S.Store c.args.conn.now) (state g.S.Store c.select_counters.new.conn) _ c.from_residual.result c.from_residual.ensures.0
    c.in_err-rows.ensures.open

pub returns-clause-open : goal.returns-clause-open
returns-clause-open g c =
    open_told (state g.S.Store c.args.conn.now) (state g.S.Store c.select_counters.new.conn) c.in_ok-rows.rows c.read_counters.result c.in_ok-rows.ensures.open

-- ---- of any database

pub returns-in_err-rows-clause-reads : goal.returns-in_err-rows-clause-reads
returns-in_err-rows-clause-reads g c =
    reads_failed (state g.S.Store c.args.conn.now) (state g.S.Store c.select_counters.new.conn) _ c.from_residual.result c.from_residual.ensures.0
    c.in_err-rows.ensures.reads

pub returns-clause-reads : goal.returns-clause-reads
returns-clause-reads g c =
    reads_told (state g.S.Store c.args.conn.now) (state g.S.Store c.select_counters.new.conn) c.in_ok-rows.rows c.read_counters.result c.in_ok-rows.ensures.reads
