use Rattle.sqlite.specs.Held.{state}
use Rattle.fuse_store_tables.proofs.BlockRows.{adds}
use Rattle.fuse_store_tables.proofs.blocks.insert_block.Goals as goal

pub returns : goal.returns
returns g c =
    adds c.args.node c.args.block c.args.bytes.now (state g.S.Store c.args.conn.now) (state g.S.Store c.run.new.conn) c.run.result
    (rw c.block_values-values.ensures at c.run.ensures.runs)
    (rw c.block_values-values.ensures at c.run.ensures.survives)
