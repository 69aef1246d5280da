use Rattle.std.proofs.Common.{rules, arith, sym, subst, List, ℕ}
use Rattle.sqlite.specs.Held.{state}
use Rattle.fuse_data.specs.Extents.{IsWhole}
use Rattle.fuse_store_tree.specs.inner.Relisting.{extent_in}
use Rattle.fuse_store_tree.proofs.PieceLists.{piece_put}
use Rattle.fuse_store_tree.proofs.piece_lists.put_piece.Goals as goal

pub returns-in-Ok-insert_piece-clause-listed : goal.returns-in-Ok-insert_piece-clause-listed
returns-in-Ok-insert_piece-clause-listed g c file keeps =
    let whole = subst (λ (bytes : List ℕ). IsWhole bytes (extent_in c.args.piece)) (sym c.in-Ok.ensures.reads.same) c.requires.whole in
    piece_put (g.C.Contents.file c.take_out.new.contents) file c.args.piece c.new-more.result c.take_out.new.gone (state g.S.Store c.args.conn.now)
    (state g.S.Store c.take_out.new.conn) (state g.S.Store c.delete_blocks_between.new.conn) (state g.S.Store c.insert_piece.new.conn)
    c.in-Ok-delete_blocks_between.field-0 c.in-Ok-insert_piece.field-0 c.new-more.ensures.none keeps whole c.requires.fits (search rules) c.requires.some
    c.requires.end c.in-Ok.ensures.taken c.in-Ok-delete_blocks_between.ensures c.in-Ok-insert_piece.ensures
