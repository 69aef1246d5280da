use Rattle.sqlite.specs.Held.{state}
use Rattle.fuse_store_tables.proofs.BlockRows.{removes_blocks}
use Rattle.fuse_store_tables.proofs.Within.{edits_within, blocks_edit}
use Rattle.fuse_store_tables.proofs.blocks.remove_blocks_from.Goals as goal

pub returns-clause-made : goal.returns-clause-made
returns-clause-made g c =
    removes_blocks c.args.node c.args.from (state g.S.Store c.args.conn.now) (state g.S.Store c.run.new.conn) c.run.result (rw c.pair-values.ensures at
    c.run.ensures.runs)
    (rw c.pair-values.ensures at c.run.ensures.survives)

pub returns-clause-within : goal.returns-clause-within
returns-clause-within g c =
    edits_within _ _ blocks_edit (state g.S.Store c.args.conn.now) (state g.S.Store c.run.new.conn) c.run.result c.run.ensures.runs c.run.ensures.survives
