use Rattle.std.proofs.Common.{refl, ◌-◌, ◌+◌, ◌≡◌, sym, subst, arith, length, take, drop}
use Rattle.std.proofs.Common.{Err, Result}
use Rattle.std.proofs.lemmas.List.{length-take-le}
use Rattle.sqlite.specs.Held.{state}
use Rattle.fuse_keeper.specs.declared.fault.StoreFault.{StoreFault}
use Rattle.fuse_store_tree.specs.Store.{HeldAs}
use Rattle.fuse_store_tree.specs.inner.Changing.{Overlaid}
use Rattle.fuse_store_tree.specs.inner.Laws.{read_then, still_read}
use Rattle.fuse_store_tree.specs.inner.Writing.{overlay_in}
use Rattle.fuse_store_tree.proofs.Overlays.{take_plus}
use Rattle.fuse_store_tree.proofs.Sure.{fault_next, sure_sound}
use Rattle.fuse_store_tree.proofs.Writes.{overlaid_keeps, overlaid_later, overlaid_then, nothing_overlaid}
use Rattle.fuse_store_tree.proofs.block_writes.write_range.Goals as goal

pub returns-in-Err-clause-reads : goal.returns-in-Err-clause-reads
returns-in-Err-clause-reads g c =
    read_then (g.C.Contents.file c.args.contents.now) (g.C.Contents.file c.pieces.contents) (g.C.Contents.file c.write_piece.new.contents) c.pieces.invariant.reads
    c.write_piece.ensures.reads

pub returns-in-Err-clause-fails : goal.returns-in-Err-clause-fails
returns-in-Err-clause-fails g c =
    overlaid_keeps (g.C.Contents.file c.pieces.contents) c.args.node c.args.at (take c.pieces.done c.args.bytes.now) (state g.S.Store c.args.conn.now)
    (state g.S.Store c.pieces.conn) (state g.S.Store c.write_piece.new.conn) c.pieces.invariant.overlaid c.in-Err.ensures.fails

pub pieces-init : goal.pieces-init
pieces-init g c = record {
  node = refl;
  at = refl;
  bytes = refl;
  done = omega arith;
  reads = still_read (g.C.Contents.file c.args.contents.now);
  overlaid = nothing_overlaid (g.C.Contents.file c.args.contents.now) c.args.node c.args.at (state g.S.Store c.args.conn.now);
}

pub pieces-preserved : goal.pieces-preserved
pieces-preserved g c =
    let a = state g.S.Store c.args.conn.now in
    let b = state g.S.Store c.pieces.conn in
    let d = state g.S.Store c.write_piece.new.conn in
    let v = g.C.Contents.file c.pieces.contents in
    let f = g.C.Contents.file c.write_piece.new.contents in
    let before = c.pieces.invariant in
    let done = c.pieces.done in
    let count = c.first_count-count.result in
    let bytes = c.args.bytes.now in
    let p = take done bytes in
    let q = take count (drop done bytes) in
    let long : length p ≡ done = length-take-le done bytes before.done in
    let same : done + count - done ≡ count = omega arith in
    let first : Overlaid f c.args.node c.args.at p a b = overlaid_later v f c.args.node c.args.at p a b c.write_piece.ensures.reads before.overlaid in
    let second : Overlaid f c.args.node (c.args.at + length p) q b d = subst (λ n. Overlaid f c.args.node (c.args.at + n) q b d) (sym long)
    (subst (λ n. Overlaid f c.args.node (c.args.at + done) (take n (drop done bytes)) b d) same c.in-Ok.ensures.overlaid) in
    record {
      node = refl;
      at = refl;
      bytes = refl;
      done = omega (arith, c.first_count-count.ensures.most, before.done);
      reads = read_then (g.C.Contents.file c.args.contents.now) v f before.reads c.write_piece.ensures.reads;
      overlaid = subst (λ l. Overlaid f c.args.node c.args.at l a d) (sym (take_plus done count bytes)) (overlaid_then f c.args.node c.args.at p q a b d first second);
    }

pub returns-in-Err-clause-fault : goal.returns-in-Err-clause-fault
returns-in-Err-clause-fault g c read =
    let a = state g.S.Store c.args.conn.now in
    let b = state g.S.Store c.pieces.conn in
    let d = state g.S.Store c.write_piece.new.conn in
    let v = g.C.Contents.file c.pieces.contents in
    let f = g.C.Contents.file c.write_piece.new.contents in
    let so_far = take c.pieces.done c.args.bytes.now in
    let failed : Result (Unit {0}) StoreFault = Err c.in-Err.fault in
    let before = overlaid_later v f c.args.node c.args.at so_far a b c.write_piece.ensures.reads c.pieces.invariant.overlaid in
    fault_next (HeldAs f.bytes) (HeldAs f.bytes) a b d c.in-Err.fault c.in-Err.ensures.fails
    (λ clean (w, at). ((w.0, overlay_in c.args.node c.args.at so_far w.1), before.turns read clean w at))
    (sure_sound f.bytes b d failed (λ clean. c.in-Err.ensures.fault clean read))
