use Rattle.std.proofs.Common.{◌≡◌, ◌≤◌, ◌<◌, ℕ, ◌+◌, ◌-◌, ◌*◌, ◌/◌, ◌%◌, replicate, ap, arith, ◌∙◌}
use Rattle.sqlite.specs.Held.{state}
use Rattle.fuse_rows.specs.Blocks.{blocks_for}
use Rattle.fuse_rows.specs.Bounds.{block_bytes}
use Rattle.fuse_store_tree.specs.Store.{HeldAs}
use Rattle.fuse_store_tree.specs.inner.Changing.{Cut}
use Rattle.fuse_store_tree.specs.inner.Laws.{read_then}
use Rattle.fuse_store_tree.specs.inner.Writing.{cut_in}
use Rattle.fuse_store_tree.specs.inner.Relisting.{GivenUp, IsAny}
use Rattle.fuse_store_tree.proofs.GoneSteps.{gives_more}
use Rattle.fuse_store_tree.proofs.PieceSteps.{relists_later}
use Rattle.fuse_store_tree.proofs.Steps.{on_ok, on_error}
use Rattle.fuse_store_tree.proofs.Cuts.{cut_keeps, cut_later, cut_then}
use Rattle.fuse_store_tree.proofs.Sure.{sure_next, sure_sound}
use Rattle.fuse_store_tree.proofs.truncation.cut_within.Goals as goal

pub returns-in-Ok-drop_blocks-clause-reads : goal.returns-in-Ok-drop_blocks-clause-reads
returns-in-Ok-drop_blocks-clause-reads g c =
    read_then (g.C.Contents.file c.args.contents.now) (g.C.Contents.file c.drop_blocks.new.contents) (g.C.Contents.file c.write_zeros.new.contents)
    c.drop_blocks.ensures.reads c.write_zeros.ensures.reads

pub returns-in-Ok-drop_blocks-clause-cut : goal.returns-in-Ok-drop_blocks-clause-cut
returns-in-Ok-drop_blocks-clause-cut g c =
    let v = g.C.Contents.file c.drop_blocks.new.contents in
    let f = g.C.Contents.file c.write_zeros.new.contents in
    let a = state g.S.Store c.args.conn.now in
    let b = state g.S.Store c.drop_blocks.new.conn in
    let d = state g.S.Store c.write_zeros.new.conn in
    let size = c.args.size in
    let end = (size / block_bytes + 1) * block_bytes in
    let dropped : Cut f c.args.node end a b = cut_later v f c.args.node end a b c.write_zeros.ensures.reads (rw c.from-3.ensures at c.in-Ok-drop_blocks.ensures.cut) in
    let zeros : c.in-Ok.zeros.items ≡ replicate (block_bytes - size % block_bytes) 0 = rw (c.from.ensures, c.from-2.ensures) at c.in-Ok.ensures.value in
    let count : block_bytes - size % block_bytes ≡ end - size = omega arith in
    let are : c.as_slice.result.now ≡ replicate (end - size) 0 = c.as_slice.ensures.value ∙ zeros ∙ ap (λ n. replicate n 0) count in
    let high : size ≤ end = omega arith in
    let none : (k : ℕ) → k * block_bytes < end → k * block_bytes < size = λ k low. omega (arith, low, c.requires.within) in
    let same : blocks_for end ≡ blocks_for size = omega (arith, c.requires.within) in
    on_ok c.write_zeros.result _ _ (cut_then f c.args.node size end c.as_slice.result.now a b d dropped are high none same) c.write_zeros.ensures.zeroed

pub returns-in-Ok-drop_blocks-clause-fails : goal.returns-in-Ok-drop_blocks-clause-fails
returns-in-Ok-drop_blocks-clause-fails g c =
    let a = state g.S.Store c.args.conn.now in
    let b = state g.S.Store c.drop_blocks.new.conn in
    let d = state g.S.Store c.write_zeros.new.conn in
    on_error c.write_zeros.result _ _ (cut_keeps (g.C.Contents.file c.drop_blocks.new.contents) c.args.node _ a b d c.in-Ok-drop_blocks.ensures.cut)
    c.write_zeros.ensures.fails

pub returns-in-Ok-drop_blocks-clause-fault : goal.returns-in-Ok-drop_blocks-clause-fault
returns-in-Ok-drop_blocks-clause-fault g c read =
    let v = g.C.Contents.file c.drop_blocks.new.contents in
    let f = g.C.Contents.file c.write_zeros.new.contents in
    let a = state g.S.Store c.args.conn.now in
    let b = state g.S.Store c.drop_blocks.new.conn in
    let d = state g.S.Store c.write_zeros.new.conn in
    let cut = cut_later v f c.args.node _ a b c.write_zeros.ensures.reads c.in-Ok-drop_blocks.ensures.cut in
    sure_next (HeldAs f.bytes) (HeldAs f.bytes) a b d c.write_zeros.result c.write_zeros.ensures.fails
    (λ clean (w, at). ((w.0, cut_in c.args.node _ w.1), cut.turns read clean w at))
    (sure_sound f.bytes b d c.write_zeros.result (λ clean. c.write_zeros.ensures.fault clean read))

pub returns-in-Ok-drop_blocks-clause-gone : goal.returns-in-Ok-drop_blocks-clause-gone
returns-in-Ok-drop_blocks-clause-gone g c =
    let v = g.C.Contents.file c.drop_blocks.new.contents in
    let f = g.C.Contents.file c.write_zeros.new.contents in
    let a = state g.S.Store c.args.conn.now in
    let b = state g.S.Store c.drop_blocks.new.conn in
    let d = state g.S.Store c.write_zeros.new.conn in
    let was = c.args.gone.now in
    let is = c.drop_blocks.new.gone in
    on_ok c.write_zeros.result _ _ (λ keeps. gives_more f.is_clean f.bytes was is a b d
    (relists_later v f IsAny (λ bytes. GivenUp bytes was is) a b c.write_zeros.ensures.reads c.in-Ok-drop_blocks.ensures.gone) (keeps is)) c.write_zeros.ensures.keeps
