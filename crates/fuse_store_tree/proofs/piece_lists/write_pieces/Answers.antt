use Rattle.std.proofs.Common.{arith, take}
use Rattle.sqlite.specs.Held.{state}
use Rattle.fuse_store_tables.specs.inner.Following.{stays_then}
use Rattle.fuse_store_tree.specs.Store.{HeldAs}
use Rattle.fuse_store_tree.specs.inner.Writing.{overlay_in}
use Rattle.fuse_store_tree.proofs.ListedPieces.{nothing_over, sure_over, up_to_all, up_to_next}
use Rattle.fuse_store_tree.proofs.Overs.{still_widens, widens_then}
use Rattle.fuse_store_tree.proofs.Steps.{on_error}
use Rattle.fuse_store_tree.proofs.Sure.{fault_next, sure_next}
use Rattle.fuse_store_tree.proofs.piece_lists.write_pieces.Goals as goal

pub loop-piece-init : goal.loop-piece-init
loop-piece-init g c =
    let f = g.C.Contents.file c.args.contents.now in
    record {
      done = omega arith;
      widens = still_widens f;
      overlaid = nothing_over f c.args.node c.args.made.now.at (state g.S.Store c.args.conn.now);
    }

pub returns-in-Err-clause-widens : goal.returns-in-Err-clause-widens
returns-in-Err-clause-widens g c =
    widens_then (g.C.Contents.file c.args.contents.now) (g.C.Contents.file c.loop-piece.contents) (g.C.Contents.file c.write_up_to.new.contents)
    c.loop-piece.invariant.widens c.in-Err.ensures.widens

pub returns-in-Err-clause-fault : goal.returns-in-Err-clause-fault
returns-in-Err-clause-fault g c read =
    let f = g.C.Contents.file c.args.contents.now in
    let v = g.C.Contents.file c.loop-piece.contents in
    let a = state g.S.Store c.args.conn.now in
    let b = state g.S.Store c.loop-piece.conn in
    let d = state g.S.Store c.write_up_to.new.conn in
    let at = c.args.made.now.at in
    let part = take c.loop-piece.done c.args.made.now.bytes.now in
    fault_next (HeldAs f.bytes) (HeldAs v.bytes) a b d c.in-Err.fault c.in-Err.ensures.fails
    (λ clean (x, held). (
      (x.0, overlay_in c.args.node at part x.1),
      c.loop-piece.invariant.overlaid.turns (c.in-Err.ensures.widens.clean read) clean x held,
    )) (c.in-Err.ensures.fault read)

pub loop-piece-preserved : goal.loop-piece-preserved
loop-piece-preserved g c =
    let f = g.C.Contents.file c.args.contents.now in
    let v = g.C.Contents.file c.loop-piece.contents in
    let w = g.C.Contents.file c.write_up_to.new.contents in
    let further = c.in-Ok.ensures.further in
    record {
      done = further.1;
      widens = widens_then f v w c.loop-piece.invariant.widens c.in-Ok.ensures.widens;
      overlaid = up_to_next f v w c.args.node c.args.made.now.at c.loop-piece.done c.in-Ok.next c.args.made.now.bytes.now (state g.S.Store c.args.conn.now)
          (state g.S.Store c.loop-piece.conn) (state g.S.Store c.write_up_to.new.conn) further.0 further.1 c.in-Ok.ensures.widens.clean
          c.loop-piece.invariant.overlaid c.in-Ok.ensures.overlaid;
    }

pub returns-clause-overlaid : goal.returns-clause-overlaid
returns-clause-overlaid g c =
    let f = g.C.Contents.file c.args.contents.now in
    let v = g.C.Contents.file c.loop-piece.contents in
    let w = g.C.Contents.file c.write_range.new.contents in
    up_to_all c.write_range.result f v w c.args.node c.args.made.now.at c.loop-piece.done c.args.made.now.bytes.now (state g.S.Store c.args.conn.now)
    (state g.S.Store c.loop-piece.conn) (state g.S.Store c.write_range.new.conn) c.loop-piece.invariant.done c.write_range.ensures.reads
    c.loop-piece.invariant.overlaid c.write_range.ensures.overlaid

pub returns-clause-fails : goal.returns-clause-fails
returns-clause-fails g c =
    let made = c.loop-piece.invariant.overlaid in
    on_error c.write_range.result _ _ (stays_then (state g.S.Store c.args.conn.now) (state g.S.Store c.loop-piece.conn) (state g.S.Store c.write_range.new.conn)
    made.stays made.within) c.write_range.ensures.fails

pub returns-clause-fault : goal.returns-clause-fault
returns-clause-fault g c read =
    let f = g.C.Contents.file c.args.contents.now in
    let v = g.C.Contents.file c.loop-piece.contents in
    let w = g.C.Contents.file c.write_range.new.contents in
    let a = state g.S.Store c.args.conn.now in
    let b = state g.S.Store c.loop-piece.conn in
    let d = state g.S.Store c.write_range.new.conn in
    let at = c.args.made.now.at in
    let part = take c.loop-piece.done c.args.made.now.bytes.now in
    sure_next (HeldAs f.bytes) (HeldAs v.bytes) a b d c.write_range.result c.write_range.ensures.fails
    (λ clean (x, held). (
      (x.0, overlay_in c.args.node at part x.1),
      c.loop-piece.invariant.overlaid.turns (c.write_range.ensures.reads.clean read) clean x held,
    ))
    (sure_over v w b d c.write_range.result c.write_range.ensures.reads (c.write_range.ensures.fault read))
