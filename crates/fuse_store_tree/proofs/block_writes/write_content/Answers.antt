use Rattle.sqlite.specs.Held.{state}
use Rattle.fuse_store_tree.proofs.Steps.{on_ok}
use Rattle.fuse_store_tree.proofs.Sure.{sure_held}
use Rattle.fuse_store_tree.proofs.Writes.{written_changed}
use Rattle.fuse_store_tree.proofs.block_writes.write_content.Goals as goal

pub returns-clause-changed : goal.returns-clause-changed
returns-clause-changed g c =
    on_ok c.write_range.result _ _ (written_changed (g.C.Contents.file c.write_range.new.contents) c.args.node c.args.at c.args.bytes.now
    (state g.S.Store c.args.conn.now) (state g.S.Store c.write_range.new.conn)) c.write_range.ensures.overlaid

pub returns-clause-fault : goal.returns-clause-fault
returns-clause-fault g c read =
    sure_held (g.C.Contents.file c.write_range.new.contents).bytes (state g.S.Store c.args.conn.now) (state g.S.Store c.write_range.new.conn) c.write_range.result
    (c.write_range.ensures.fault read)
