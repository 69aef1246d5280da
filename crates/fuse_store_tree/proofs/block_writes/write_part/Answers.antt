use Rattle.sqlite.specs.Held.{state}
use Rattle.fuse_store_tree.proofs.Writes.{piece_written, piece_keeps}
use Rattle.fuse_store_tree.proofs.block_writes.write_part.Goals as goal

pub returns-clause-overlaid : goal.returns-clause-overlaid
returns-clause-overlaid g c =
    piece_written (g.C.Contents.file c.find_block.new.contents) (state g.S.Store c.args.conn.now) (state g.S.Store c.find_block.new.conn)
    (state g.S.Store c.write_over.new.conn) c.write_over.result c.args.node c.args.here c.args.part.now c.in-Ok.found.bytes.items c.in-Ok.found.stored
    c.in-Ok.ensures.looks c.write_over.ensures.made (rw c.from.ensures at c.in-Ok.ensures.value) (rw c.from.ensures at c.in-Ok.ensures.stored)
    c.in-Ok.ensures.whole c.requires.within c.requires.some

pub returns-clause-fails : goal.returns-clause-fails
returns-clause-fails g c =
    piece_keeps _ (state g.S.Store c.args.conn.now) (state g.S.Store c.find_block.new.conn) (state g.S.Store c.write_over.new.conn) c.write_over.result
    c.in-Ok.ensures.looks c.write_over.ensures.made
