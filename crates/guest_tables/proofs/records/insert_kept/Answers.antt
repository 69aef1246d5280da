use Rattle.sqlite.specs.Held.{state}
use Rattle.guest_tables.proofs.KeptRows.{adds, adds_new}
use Rattle.guest_tables.proofs.records.insert_kept.Goals as goal

pub returns-clause-made : goal.returns-clause-made
returns-clause-made g c =
    adds (record { id = c.args.id; lot = c.args.lot; said = c.args.answer.now }) (state g.S.Store c.args.conn.now) (state g.S.Store c.run.new.conn)
    c.run.result (rw c.kept_values-values.ensures at c.run.ensures.runs)
    (rw c.kept_values-values.ensures at c.run.ensures.survives)

pub returns-clause-fresh : goal.returns-clause-fresh
returns-clause-fresh g c = adds_new (record { id = c.args.id; lot = c.args.lot; said = c.args.answer.now }) (state g.S.Store c.args.conn.now) (state g.S.Store c.run.new.conn) c.run.result (rw c.kept_values-values.ensures at c.run.ensures.runs)
