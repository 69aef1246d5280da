use Rattle.std.proofs.Common.{◌≡◌, [], refl, sym, subst, ◌∙◌}
use Rattle.sqlite.specs.Held.{state}
use Rattle.fuse_store_tables.specs.inner.Following.{earlier}
use Rattle.fuse_data.specs.Leaving.{KeepsInUse}
use Rattle.fuse_store_tree.specs.inner.Laws.{looked_fails}
use Rattle.fuse_store_tree.specs.inner.Moving.{HasStored}
use Rattle.fuse_store_tree.specs.Widening.{Shows}
use Rattle.fuse_store_tree.proofs.Overs.{widens_of}
use Rattle.fuse_store_tree.proofs.MoveSteps.{lists_moving, looks_moving, fails_after, fault_after}
use Rattle.fuse_store_tree.proofs.moving.list_move.Goals as goal

pub returns-then-listed-clause-moved : goal.returns-then-listed-clause-moved
returns-then-listed-clause-moved g c =
    let f = g.C.Contents.file c.args.contents.now in
    let w = g.C.Contents.file c.list_extent-listed.new.contents in
    lists_moving c.put_piece.result f w (g.C.Contents.file c.put_piece.new.contents) c.args.row (state g.S.Store c.args.conn.now) (state g.S.Store c.can_list.new.conn)
    (state g.S.Store c.put_piece.new.conn) c.in-Ok.ensures.looks (subst (λ e. Shows e f w) c.extent_of.ensures (c.if-listed.ensures.shows refl)) c.put_piece.ensures.reads
    c.requires.whole (λ clean k at fits. c.in-Ok.ensures.value clean (c.if-listed.ensures.allowed refl) k at fits) c.requires.some c.put_piece.ensures.listed

pub returns-then-listed-clause-fails : goal.returns-then-listed-clause-fails
returns-then-listed-clause-fails g c =
    fails_after c.put_piece.result (state g.S.Store c.args.conn.now) (state g.S.Store c.can_list.new.conn) (state g.S.Store c.put_piece.new.conn) c.in-Ok.ensures.looks
    c.put_piece.ensures.fails

pub returns-then-listed-clause-fault : goal.returns-then-listed-clause-fault
returns-then-listed-clause-fault g c =
    fault_after c.put_piece.result (g.C.Contents.file c.args.contents.now) (g.C.Contents.file c.put_piece.new.contents) (state g.S.Store c.args.conn.now)
    (state g.S.Store c.can_list.new.conn) (state g.S.Store c.put_piece.new.conn) c.in-Ok.ensures.looks
    (subst (λ bytes. KeepsInUse [] (g.C.Contents.file c.args.contents.now).bytes bytes) (sym c.put_piece.ensures.reads.same)
    (c.if-listed.ensures.shows refl).widens.kept) c.put_piece.ensures.fails c.put_piece.ensures.fault

pub returns-else-listed-clause-moved : goal.returns-else-listed-clause-moved
returns-else-listed-clause-moved g c =
    let f = g.C.Contents.file c.args.contents.now in
    let w = g.C.Contents.file c.list_extent-listed.new.contents in
    looks_moving f w (HasStored f.contents.seen f.bytes c.args.row) (state g.S.Store c.args.conn.now) (state g.S.Store c.can_list.new.conn) c.in-Ok.ensures.looks
    (widens_of f w (c.if-listed.ensures.same refl)).kept
