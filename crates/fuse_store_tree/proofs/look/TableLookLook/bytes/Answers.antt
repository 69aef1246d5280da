use Rattle.sqlite.specs.Held.{state}
use Rattle.fuse_store_tree.specs.Knowing.{knowing}
use Rattle.fuse_store_tree.proofs.Sure.{failed_so}
use Rattle.fuse_store_tree.proofs.look.TableLookLook.bytes.Goals as goal

pub returns-in-Err-clause-fails : goal.returns-in-Err-clause-fails
returns-in-Err-clause-fails g c =
    let a = knowing c.args.self.now.known (state g.S.Store c.args.self.now.conn) (g.C.Contents.file c.args.self.now.contents) in
    let b = knowing c.fail.new.self.known (state g.S.Store c.find_bytes.new.self.conn) (g.C.Contents.file c.find_bytes.new.self.contents) in
    rw (c.fail.ensures.conn, c.fail.ensures.contents)
    (failed_so a b c.args.self.now.fault c.fail.new.self.fault c.in-Err.fault c.fail.ensures.kept c.in-Err.ensures.fails c.in-Err.ensures.reads
    c.in-Err.ensures.plain (λ clean read. c.in-Err.ensures.fault clean read))
