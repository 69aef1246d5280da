use Rattle.sqlite.specs.Held.{state}
use Rattle.guest_tables.proofs.PairUpdates.{sets, sets_some}
use Rattle.guest_tables.proofs.pairs.update_pair.Goals as goal

pub returns-clause-made : goal.returns-clause-made
returns-clause-made g c =
    sets c.args.key.now c.args.value.now (state g.S.Store c.args.conn.now) (state g.S.Store c.run_any.new.conn) c.run_any.result
    (rw c.two_values-values.ensures at c.run_any.ensures.runs) (rw c.two_values-values.ensures at c.run_any.ensures.survives)

pub returns-clause-found : goal.returns-clause-found
returns-clause-found g c =
    sets_some c.args.key.now c.args.value.now (state g.S.Store c.args.conn.now) (state g.S.Store c.run_any.new.conn) c.run_any.result
    (rw c.two_values-values.ensures at c.run_any.ensures.runs)
