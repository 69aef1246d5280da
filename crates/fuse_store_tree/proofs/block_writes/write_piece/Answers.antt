use Rattle.sqlite.specs.Held.{state}
use Rattle.fuse_store_tree.specs.inner.Laws.{still_read}
use Rattle.fuse_store_tree.proofs.Writes.{whole_written, makes_fails}
use Rattle.fuse_store_tree.proofs.block_writes.write_piece.Goals as goal

pub returns-then-part-clause-reads : goal.returns-then-part-clause-reads
returns-then-part-clause-reads g c = still_read (g.C.Contents.file c.args.contents.now)

pub returns-then-part-clause-overlaid : goal.returns-then-part-clause-overlaid
returns-then-part-clause-overlaid g c =
    whole_written (g.C.Contents.file c.args.contents.now) (state g.S.Store c.args.conn.now) (state g.S.Store c.write_whole.new.conn) c.write_whole.result
    c.args.node c.args.here c.args.part.now c.write_whole.ensures.made c.if-part.true c.requires.within

pub returns-then-part-clause-fails : goal.returns-then-part-clause-fails
returns-then-part-clause-fails g c =
    makes_fails _ (state g.S.Store c.args.conn.now) (state g.S.Store c.write_whole.new.conn) c.write_whole.result c.write_whole.ensures.made
