use Rattle.sqlite.specs.Held.{state}
use Rattle.fuse_store_tables.proofs.NodeRows.{removes}
use Rattle.fuse_store_tables.proofs.nodes.delete_node.Goals as goal

pub returns : goal.returns
returns g c =
    removes c.args.node (state g.S.Store c.args.conn.now) (state g.S.Store c.run.new.conn) c.run.result (rw c.number-values.ensures at
    c.run.ensures.runs)
    (rw c.number-values.ensures at c.run.ensures.survives)
