use Rattle.sqlite.specs.Held.{state}
use Rattle.fuse_store_tables.proofs.PieceRows.{adds}
use Rattle.fuse_store_tables.proofs.pieces.insert_piece.Goals as goal

pub returns : goal.returns
returns g c =
    adds c.args.row (state g.S.Store c.args.conn.now) (state g.S.Store c.run.new.conn) c.run.result
    (rw c.piece_values-values.ensures at c.run.ensures.runs) (rw c.piece_values-values.ensures at c.run.ensures.survives)
