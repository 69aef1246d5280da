use Rattle.sqlite.specs.Held.{state}
use Rattle.fuse_store_tables.proofs.BlockChanges.{sets, sets_some}
use Rattle.fuse_store_tables.proofs.blocks.update_block.Goals as goal

pub returns-clause-made : goal.returns-clause-made
returns-clause-made g c =
    sets c.args.node c.args.block c.args.bytes.now (state g.S.Store c.args.conn.now) (state g.S.Store c.run_any.new.conn) c.run_any.result
    (rw c.block_values-values.ensures at c.run_any.ensures.runs) (rw c.block_values-values.ensures at c.run_any.ensures.survives)

pub returns-clause-found : goal.returns-clause-found
returns-clause-found g c =
    sets_some c.args.node c.args.block c.args.bytes.now (state g.S.Store c.args.conn.now) (state g.S.Store c.run_any.new.conn) c.run_any.result
    (rw c.block_values-values.ensures at c.run_any.ensures.runs)
