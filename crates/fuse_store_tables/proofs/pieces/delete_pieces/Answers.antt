use Rattle.sqlite.specs.Held.{state}
use Rattle.fuse_store_tables.proofs.PieceRows.{removes_between}
use Rattle.fuse_store_tables.proofs.pieces.delete_pieces.Goals as goal

pub returns : goal.returns
returns g c =
    removes_between c.args.node c.args.from c.args.to (state g.S.Store c.args.conn.now) (state g.S.Store c.run.new.conn) c.run.result
    (rw c.triple-values.ensures at c.run.ensures.runs) (rw c.triple-values.ensures at c.run.ensures.survives)
