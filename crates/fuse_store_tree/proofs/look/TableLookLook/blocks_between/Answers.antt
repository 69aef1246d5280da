use Rattle.std.proofs.Common.{◌≡◌, sym, subst}
use Rattle.sqlite.specs.Held.{state}
use Rattle.fuse_rows.specs.Rows.{Rows, blocks_between}
use Rattle.fuse_tree.specs.Rowed.{IsRowed}
use Rattle.fuse_store_tree.specs.Knowing.{knowing}
use Rattle.fuse_store_tree.specs.inner.Laws.{still_read}
use Rattle.fuse_store_tree.specs.inner.Reading.{IsSound}
use Rattle.fuse_store_tree.proofs.BlocksCounted.{count_told}
use Rattle.fuse_store_tree.proofs.Described.{inside_of}
use Rattle.fuse_store_tree.proofs.Turning.{content_in}
use Rattle.fuse_store_tree.proofs.Sure.{failed_so}
use Rattle.fuse_store_tree.proofs.look.TableLookLook.blocks_between.Goals as goal

pub returns-in-Ok-clause-count : goal.returns-in-Ok-clause-count
returns-in-Ok-clause-count g c (clean, read) rows rowed (((x, at, is), knows), recalls) =
    let file = (g.C.Contents.file c.args.self.now.contents).bytes in
    let k = at.holds.0 in
    let inside = inside_of file x (state g.S.Store c.args.self.now.conn) at in
    let sound : IsSound file k = (at.holds.2.fits, at.holds.2.pieces) in
    subst (λ (r : Rows). c.in-Ok.count ≡ blocks_between r c.args.node c.args.from c.args.to) is
    (count_told c.rows_of_trees.ensures x file k (subst IsRowed (sym is) rowed) at.holds.2 c.args.node c.args.from c.args.to c.in-Ok.count
    (λ third low. c.in-Ok.ensures.value clean file k inside sound third low) (λ second. c.in-Ok.ensures.none clean k inside second) c.in-Ok.ensures.high)

pub returns-in-Err-clause-fails : goal.returns-in-Err-clause-fails
returns-in-Err-clause-fails g c =
    let a = knowing c.args.self.now.known (state g.S.Store c.args.self.now.conn) (g.C.Contents.file c.args.self.now.contents) in
    let b = knowing c.fail.new.self.known (state g.S.Store c.count_between.new.conn) (g.C.Contents.file c.args.self.now.contents) in
    let file = (g.C.Contents.file c.args.self.now.contents).bytes in
    rw (c.fail.ensures.conn, c.fail.ensures.contents)
    (failed_so a b c.args.self.now.fault c.fail.new.self.fault c.in-Err.fault c.fail.ensures.kept c.in-Err.ensures.fails
    (still_read (g.C.Contents.file c.args.self.now.contents)) c.in-Err.ensures.plain
    (λ clean read y at. c.in-Err.ensures.fault clean file at.holds.held.0 (content_in file y (state g.S.Store c.args.self.now.conn) at)
    (at.holds.held.2.fits, at.holds.held.2.pieces)))
