use Rattle.sqlite.specs.Held.{state}
use Rattle.fuse_store_tables.proofs.HandleRows.{removes}
use Rattle.fuse_store_tables.proofs.handles.delete_handle.Goals as goal

pub returns : goal.returns
returns g c =
    removes c.args.fh (state g.S.Store c.args.conn.now) (state g.S.Store c.run.new.conn) c.run.result (rw c.number-values.ensures at
    c.run.ensures.runs)
    (rw c.number-values.ensures at c.run.ensures.survives)
