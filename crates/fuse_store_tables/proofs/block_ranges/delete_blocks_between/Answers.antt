use Rattle.sqlite.specs.Held.{state}
use Rattle.fuse_store_tables.proofs.BlockRanges.{removes}
use Rattle.fuse_store_tables.proofs.block_ranges.delete_blocks_between.Goals as goal

pub returns : goal.returns
returns g c =
    removes c.args.node c.args.from c.args.to (state g.S.Store c.args.conn.now) (state g.S.Store c.run.new.conn) c.run.result
    (rw c.triple-values.ensures at c.run.ensures.runs) (rw c.triple-values.ensures at c.run.ensures.survives)
