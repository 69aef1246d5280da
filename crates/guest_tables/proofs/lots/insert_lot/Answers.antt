use Rattle.sqlite.specs.Held.{state}
use Rattle.guest_tables.proofs.LotRows.{adds, adds_new}
use Rattle.guest_tables.proofs.lots.insert_lot.Goals as goal

pub returns-clause-made : goal.returns-clause-made
returns-clause-made g c =
    adds c.args.lot (state g.S.Store c.args.conn.now) (state g.S.Store c.run.new.conn) c.run.result (rw c.number-values.ensures at
    c.run.ensures.runs)
    (rw c.number-values.ensures at c.run.ensures.survives)

pub returns-clause-fresh : goal.returns-clause-fresh
returns-clause-fresh g c = adds_new c.args.lot (state g.S.Store c.args.conn.now) (state g.S.Store c.run.new.conn) c.run.result (rw c.number-values.ensures at c.run.ensures.runs)
