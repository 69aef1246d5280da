use Rattle.std.proofs.Common.{◌≡◌, ◌+◌, ◌-◌, ◌*◌, ap, arith, subst, take, drop}
use Rattle.sqlite.specs.Held.{state}
use Rattle.fuse_rows.specs.Bounds.{block_bytes}
use Rattle.fuse_store_tree.specs.Store.{HeldAs}
use Rattle.fuse_store_tree.specs.inner.Over.{OverlaidOver}
use Rattle.fuse_store_tree.specs.inner.Writing.{overlay_in}
use Rattle.fuse_store_tree.proofs.ListedPieces.{nothing_over, overlaid_over, up_to}
use Rattle.fuse_store_tree.proofs.Sure.{fault_next}
use Rattle.fuse_store_tree.proofs.piece_lists.write_up_to.Goals as goal

pub returns-then-start-done-clause-overlaid : goal.returns-then-start-done-clause-overlaid
returns-then-start-done-clause-overlaid g c =
    let f = g.C.Contents.file c.args.contents.now in
    let a = state g.S.Store c.args.conn.now in
    let at = c.args.made.now.at in
    let none : 0 ≡ c.args.done - c.args.done = omega arith in
    subst (λ n. OverlaidOver f f c.args.node (at + c.args.done) (take n (drop c.args.done c.args.made.now.bytes.now)) a a) none
    (nothing_over f c.args.node (at + c.args.done) a)

pub returns-in-Ok-list_piece-clause-overlaid : goal.returns-in-Ok-list_piece-clause-overlaid
returns-in-Ok-list_piece-clause-overlaid g c =
    let f = g.C.Contents.file c.args.contents.now in
    let v = g.C.Contents.file c.write_range.new.contents in
    let w = g.C.Contents.file c.list_piece.new.contents in
    let a = state g.S.Store c.args.conn.now in
    let b = state g.S.Store c.write_range.new.conn in
    let d = state g.S.Store c.list_piece.new.conn in
    let at = c.args.made.now.at in
    let bytes = c.args.made.now.bytes.now in
    let done = c.args.done in
    let start = c.args.piece.first * c.from.result - at in
    let end = start + c.args.piece.extent.count * 4096 in
    let begins = c.requires.piece.part.begins in
    let ends = c.requires.piece.part.ends in
    let same : c.args.piece.first * c.from.result ≡ c.args.piece.first * block_bytes = ap (λ n. c.args.piece.first * n) c.from.ensures in
    let here : at + start ≡ c.args.piece.first * block_bytes = omega (arith, begins, same) in
    up_to f v w c.args.node at start done end (c.args.piece.first * block_bytes) bytes a b d here c.if-start-done.false (omega arith)
    (omega (arith, here, ends)) c.in-Ok-list_piece.ensures.widens.clean
    (overlaid_over f v c.args.node (at + done) (take (start - done) (drop done bytes)) a b c.in-Ok.ensures.reads c.in-Ok.ensures.overlaid)
    c.in-Ok-list_piece.ensures.overlaid

pub returns-in-Err-list_piece-clause-fault : goal.returns-in-Err-list_piece-clause-fault
returns-in-Err-list_piece-clause-fault g c read =
    let f = g.C.Contents.file c.args.contents.now in
    let v = g.C.Contents.file c.write_range.new.contents in
    let a = state g.S.Store c.args.conn.now in
    let b = state g.S.Store c.write_range.new.conn in
    let d = state g.S.Store c.list_piece.new.conn in
    let here = c.args.made.now.at + c.args.done in
    let part = take (c.args.piece.first * c.from.result - c.args.made.now.at - c.args.done) (drop c.args.done c.args.made.now.bytes.now) in
    let first = overlaid_over f v c.args.node here part a b c.in-Ok.ensures.reads c.in-Ok.ensures.overlaid in
    fault_next (HeldAs f.bytes) (HeldAs v.bytes) a b d c.in-Err-list_piece.fault c.in-Err-list_piece.ensures.fails
    (λ clean (x, at). ((x.0, overlay_in c.args.node here part x.1), first.turns (c.in-Err-list_piece.ensures.widens.clean read) clean x at))
    (c.in-Err-list_piece.ensures.fault read)
