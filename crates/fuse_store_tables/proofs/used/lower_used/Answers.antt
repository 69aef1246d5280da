use Rattle.std.proofs.Common.{sym, arith, ◌∙◌}
use Rattle.sqlite.specs.Held.{state}
use Rattle.fuse_store_tables.specs.Clearing.{lowered}
use Rattle.fuse_store_tables.specs.Content.{Holds, value_at}
use Rattle.fuse_store_tables.specs.inner.Steps.{lowered_from}
use Rattle.fuse_store_tables.proofs.Joining.{makes_as_too, makes_known, fails_looked, outside_back, sure_here, sure_then}
use Rattle.fuse_store_tables.proofs.Lowering.{from_used, no_rows, none_lowered, one_number, some_rows}
use Rattle.fuse_store_tables.proofs.Within.{within_then, within_failed, within_told}
use Rattle.fuse_store_tables.proofs.used.lower_used.Goals as goal

pub returns-then-is_empty-clause-made : goal.returns-then-is_empty-clause-made
returns-then-is_empty-clause-made g c =
    makes_known (λ k. k) lowered (state g.S.Store c.args.conn.now) (state g.S.Store c.select_counter.new.conn) _ tt c.in_ok-rows.ensures.made
    (λ k clean at. none_lowered c.in_ok-rows.rows.items k (c.in_ok-rows.ensures.found clean k at)
    (no_rows c.in_ok-rows.rows.items c.in_ok-rows.rows.len (omega (arith, c.in_ok-rows.rows.ok)) (sym c.is_empty.ensures ∙ c.if-is_empty.true)))

pub returns-in_err-used-clause-made : goal.returns-in_err-used-clause-made
returns-in_err-used-clause-made g c =
    fails_looked lowered _ _ _ c.from_residual-in_err-used.result c.in_ok-rows.ensures.made c.from_residual-in_err-used.ensures.0

pub returns-clause-made : goal.returns-clause-made
returns-clause-made g c =
    makes_as_too (lowered_from c.in_ok-used.used) lowered (state g.S.Store c.args.conn.now) (state g.S.Store c.select_counter.new.conn)
    (state g.S.Store c.lower_from.new.conn) _ c.lower_from.result c.in_ok-rows.ensures.made
    (λ k clean at. from_used c.in_ok-rows.rows.items k c.in_ok-used.used (c.in_ok-rows.ensures.found clean k at)
    (some_rows c.in_ok-rows.rows.items c.in_ok-rows.rows.len (omega (arith, c.in_ok-rows.rows.ok)) (sym c.is_empty.ensures ∙ c.if-is_empty.false)) (λ m is. c.in_ok-used.ensures.value m (c.as_slice.ensures.value ∙ is)))
    c.lower_from.ensures.made

pub returns-in_err-used-clause-fault : goal.returns-in_err-used-clause-fault
returns-in_err-used-clause-fault g c =
    sure_here Holds (state g.S.Store c.args.conn.now) (state g.S.Store c.select_counter.new.conn) c.from_residual-in_err-used.result
    (λ clean k at. outside_back _ c.from_residual-in_err-used.result c.from_residual-in_err-used.ensures.1
    (c.in_err-used.ensures.fault (value_at 14 k) (c.as_slice.ensures.value ∙ one_number c.in_ok-rows.rows.items k (c.in_ok-rows.ensures.found clean k at)
    (some_rows c.in_ok-rows.rows.items c.in_ok-rows.rows.len (omega (arith, c.in_ok-rows.rows.ok)) (sym c.is_empty.ensures ∙ c.if-is_empty.false)))))

pub returns-clause-fault : goal.returns-clause-fault
returns-clause-fault g c =
    sure_then (λ k. k) _ _ _ _ c.lower_from.result c.in_ok-rows.ensures.made c.lower_from.ensures.made.stays.survives c.lower_from.ensures.fault

pub returns-in_err-rows-clause-within : goal.returns-in_err-rows-clause-within
returns-in_err-rows-clause-within g c = within_failed _ _ _ _ c.in_err-rows.ensures.within c.from_residual.ensures.0

pub returns-then-is_empty-clause-within : goal.returns-then-is_empty-clause-within
returns-then-is_empty-clause-within g c = within_told _ _ _ _ c.in_ok-rows.ensures.within

pub returns-in_err-used-clause-within : goal.returns-in_err-used-clause-within
returns-in_err-used-clause-within g c = within_told _ _ _ _ c.in_ok-rows.ensures.within

pub returns-clause-within : goal.returns-clause-within
returns-clause-within g c = within_then _ _ _ _ _ c.in_ok-rows.ensures.within c.lower_from.ensures.within
