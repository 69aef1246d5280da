use Rattle.sqlite.specs.Held.{state}
use Rattle.fuse_store_tables.proofs.HandleRows.{adds, adds_new}
use Rattle.fuse_store_tables.proofs.handles.insert_handle.Goals as goal

pub returns-clause-made : goal.returns-clause-made
returns-clause-made g c =
    adds c.args.row.now (state g.S.Store c.args.conn.now) (state g.S.Store c.run.new.conn) c.run.result (rw c.handle_values-values.ensures at
    c.run.ensures.runs)
    (rw c.handle_values-values.ensures at c.run.ensures.survives)

pub returns-clause-fresh : goal.returns-clause-fresh
returns-clause-fresh g c = adds_new c.args.row.now (state g.S.Store c.args.conn.now) (state g.S.Store c.run.new.conn) c.run.result (rw c.handle_values-values.ensures at c.run.ensures.runs)
