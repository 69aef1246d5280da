use Rattle.sqlite.specs.Held.{state}
use Rattle.fuse_store_tables.proofs.LotRows.{adds, adds_new}
use Rattle.fuse_store_tables.proofs.Within.{edits_within, lot_edit}
use Rattle.fuse_store_tables.proofs.records.write_lot.Goals as goal

pub returns-clause-made : goal.returns-clause-made
returns-clause-made g c =
    adds c.args.lot (state g.S.Store c.args.conn.now) (state g.S.Store c.run.new.conn) c.run.result (rw c.number-values.ensures at
    c.run.ensures.runs)
    (rw c.number-values.ensures at c.run.ensures.survives)

pub returns-clause-within : goal.returns-clause-within
returns-clause-within g c =
    edits_within _ _ lot_edit (state g.S.Store c.args.conn.now) (state g.S.Store c.run.new.conn) c.run.result c.run.ensures.runs c.run.ensures.survives

pub returns-clause-fresh : goal.returns-clause-fresh
returns-clause-fresh g c = adds_new c.args.lot (state g.S.Store c.args.conn.now) (state g.S.Store c.run.new.conn) c.run.result (rw c.number-values.ensures at c.run.ensures.runs)
