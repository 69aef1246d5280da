use Rattle.std.proofs.Common.{◌≡◌, ◌+◌, ◌<◌, ◌^◌, arith, length, subst}
use Rattle.sqlite.specs.Held.{state}
use Rattle.fuse_rows.specs.declared.rows.Change.TheVariants as changes
use Rattle.fuse_store_tree.proofs.ListedPieces.{changed_over, made_changed}
use Rattle.fuse_store_tree.proofs.Overs.{sure_before}
use Rattle.fuse_store_tree.proofs.Sure.{sure_held}
use Rattle.fuse_store_tree.proofs.piece_lists.write_made.Goals as goal

pub returns-then-listed-clause-changed : goal.returns-then-listed-clause-changed
returns-then-listed-clause-changed g c =
    let made = c.args.made.now in
    let is = c.is_made_of-listed.ensures in
    made_changed c.write_pieces.result (g.C.Contents.file c.args.contents.now) (g.C.Contents.file c.write_pieces.new.contents) c.args.node made.at c.args.at
    made.bytes.now c.args.bytes.now (state g.S.Store c.args.conn.now) (state g.S.Store c.write_pieces.new.conn) (is.place c.if-listed.true)
    (is.bytes c.if-listed.true) c.write_pieces.ensures.overlaid

pub returns-then-listed-clause-fault : goal.returns-then-listed-clause-fault
returns-then-listed-clause-fault g c read =
    sure_held (g.C.Contents.file c.args.contents.now).bytes (state g.S.Store c.args.conn.now) (state g.S.Store c.write_pieces.new.conn) c.write_pieces.result
    (c.write_pieces.ensures.fault read)

pub returns-else-listed-clause-changed : goal.returns-else-listed-clause-changed
returns-else-listed-clause-changed g c =
    changed_over c.write_content.result (g.C.Contents.file c.args.contents.now) (g.C.Contents.file c.write_content.new.contents) _ (state g.S.Store c.args.conn.now)
    (state g.S.Store c.write_content.new.conn) c.write_content.ensures.reads c.write_content.ensures.changed

pub returns-else-listed-clause-fault : goal.returns-else-listed-clause-fault
returns-else-listed-clause-fault g c read =
    sure_before (g.C.Contents.file c.args.contents.now) (g.C.Contents.file c.write_content.new.contents) (state g.S.Store c.args.conn.now)
    (state g.S.Store c.write_content.new.conn) c.write_content.result c.write_content.ensures.reads (c.write_content.ensures.fault read)
