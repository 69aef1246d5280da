use Rattle.sqlite.specs.Held.{state}
use Rattle.guest_tables.proofs.KeptRows.{removes}
use Rattle.guest_tables.proofs.records.delete_kept.Goals as goal

pub returns : goal.returns
returns g c =
    removes c.args.id (state g.S.Store c.args.conn.now) (state g.S.Store c.run.new.conn) c.run.result (rw c.number-values.ensures at
    c.run.ensures.runs)
    (rw c.number-values.ensures at c.run.ensures.survives)
