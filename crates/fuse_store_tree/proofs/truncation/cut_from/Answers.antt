use Rattle.std.proofs.Common.{◌≡◌, ◌*◌, ◌/◌, ◌%◌, subst, arith}
use Rattle.sqlite.specs.Held.{state}
use Rattle.fuse_rows.specs.Bounds.{block_bytes}
use Rattle.fuse_store_tree.specs.inner.Changing.{Cut}
use Rattle.fuse_store_tree.proofs.Steps.{on_ok}
use Rattle.fuse_store_tree.proofs.truncation.cut_from.Goals as goal

pub returns-then-start-eq0-clause-cut : goal.returns-then-start-eq0-clause-cut
returns-then-start-eq0-clause-cut g c =
    let f = g.C.Contents.file c.drop_blocks.new.contents in
    let a = state g.S.Store c.args.conn.now in
    let d = state g.S.Store c.drop_blocks.new.conn in
    let size = c.args.size in
    let none : size % block_bytes ≡ 0 = rw c.from.ensures at c.if-start-eq0.true in
    let same : size / block_bytes * block_bytes ≡ size = omega (arith, none) in
    on_ok c.drop_blocks.result _ _ (λ p. subst (λ n. Cut f c.args.node n a d) same (rw c.from-then-start-eq0.ensures at p)) c.drop_blocks.ensures.cut
