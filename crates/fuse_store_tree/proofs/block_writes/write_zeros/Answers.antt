use Rattle.std.proofs.Common.{◌≡◌, ◌%◌, arith, length, sym, ◌∙◌}
use Rattle.sqlite.specs.Held.{state}
use Rattle.fuse_rows.specs.Bounds.{block_bytes}
use Rattle.fuse_store_tables.specs.inner.Following.{earlier}
use Rattle.fuse_store_tree.specs.inner.Writing.{spliced}
use Rattle.fuse_store_tree.proofs.GoneSteps.{each_ok, gives_looked, gives_put}
use Rattle.fuse_store_tree.proofs.Steps.{on_ok}
use Rattle.fuse_store_tree.proofs.Writes.{piece_written, piece_keeps, spliced_length}
use Rattle.fuse_store_tree.proofs.Zeros.{zeros_there, zeros_over}
use Rattle.fuse_store_tree.proofs.block_writes.write_zeros.Goals as goal

pub returns-then-found-clause-zeroed : goal.returns-then-found-clause-zeroed
returns-then-found-clause-zeroed g c =
    let f = g.C.Contents.file c.find_block.new.contents in
    let a = state g.S.Store c.args.conn.now in
    let b = state g.S.Store c.find_block.new.conn in
    let d = state g.S.Store c.write_over.new.conn in
    on_ok c.write_over.result _ _ (zeros_over f c.args.node c.args.here c.args.zeros.now a d (λ clean k at sound.
    sym c.if-found.true ∙ (rw c.from.ensures at c.in-Ok.ensures.written) (earlier b d _ c.write_over.ensures.made.stays.survives clean) f.bytes k at sound)
    c.requires.some c.requires.within)
    (piece_written f a b d c.write_over.result c.args.node c.args.here c.args.zeros.now c.in-Ok.found.bytes.items c.in-Ok.found.stored c.in-Ok.ensures.looks
    c.write_over.ensures.made (rw c.from.ensures at c.in-Ok.ensures.value) (rw c.from.ensures at c.in-Ok.ensures.stored) c.in-Ok.ensures.whole
    c.requires.within c.requires.some)

pub returns-then-found-clause-fails : goal.returns-then-found-clause-fails
returns-then-found-clause-fails g c =
    piece_keeps _ (state g.S.Store c.args.conn.now) (state g.S.Store c.find_block.new.conn) (state g.S.Store c.write_over.new.conn) c.write_over.result
    c.in-Ok.ensures.looks c.write_over.ensures.made

pub returns-clause-zeroed : goal.returns-clause-zeroed
returns-clause-zeroed g c =
    let f = g.C.Contents.file c.find_block.new.contents in
    zeros_there f c.args.node c.args.here c.args.zeros.now (state g.S.Store c.args.conn.now) (state g.S.Store c.find_block.new.conn)
    c.in-Ok.ensures.looks (λ clean k at sound. sym c.if-found.false ∙ (rw c.from.ensures at c.in-Ok.ensures.written) clean f.bytes k at sound)
    c.requires.zeros c.requires.within

pub returns-in-Err-clause-fails : goal.returns-in-Err-clause-fails
returns-in-Err-clause-fails g c =
    c.in-Err.ensures.fails

pub returns-then-found-clause-keeps : goal.returns-then-found-clause-keeps
returns-then-found-clause-keeps g c =
    let f = g.C.Contents.file c.find_block.new.contents in
    let old = c.in-Ok.found.bytes.items in
    let start = c.args.here % block_bytes in
    let long : length (spliced old start c.args.zeros.now) ≡ block_bytes =
    spliced_length old c.args.zeros.now start (omega (arith, c.in-Ok.ensures.whole, c.requires.within)) ∙ c.in-Ok.ensures.whole in
    each_ok c.write_over.result _ (λ gone. gives_put f.is_clean f.bytes gone (state g.S.Store c.args.conn.now) (state g.S.Store c.find_block.new.conn)
    (state g.S.Store c.write_over.new.conn) c.write_over.result c.args.node _ _ c.in-Ok.found.stored c.in-Ok.ensures.looks c.write_over.ensures.made long)

pub returns-clause-keeps : goal.returns-clause-keeps
returns-clause-keeps g c gone =
    let f = g.C.Contents.file c.find_block.new.contents in
    gives_looked f.is_clean f.bytes gone (state g.S.Store c.args.conn.now) (state g.S.Store c.find_block.new.conn) c.in-Ok.ensures.looks
