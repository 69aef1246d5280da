use Rattle.sqlite.specs.Held.{state}
use Rattle.fuse_store_tables.proofs.PieceRows.{removes_all, all_edit}
use Rattle.fuse_store_tables.proofs.Within.{edits_within}
use Rattle.fuse_store_tables.proofs.pieces.delete_all_pieces.Goals as goal

pub returns-clause-made : goal.returns-clause-made
returns-clause-made g c =
    removes_all c.args.node (state g.S.Store c.args.conn.now) (state g.S.Store c.run.new.conn) c.run.result
    (rw c.number-values.ensures at c.run.ensures.runs) (rw c.number-values.ensures at c.run.ensures.survives)

pub returns-clause-within : goal.returns-clause-within
returns-clause-within g c =
    edits_within _ _ all_edit (state g.S.Store c.args.conn.now) (state g.S.Store c.run.new.conn) c.run.result c.run.ensures.runs c.run.ensures.survives
