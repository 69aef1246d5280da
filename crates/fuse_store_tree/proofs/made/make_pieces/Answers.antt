use Rattle.std.proofs.Common.{◌≡◌, ◌*◌, arith, sym, subst}
use Rattle.std.specs.List.{All}
use Rattle.std.proofs.lemmas.List.Elements.{All-push}
use Rattle.fuse_data.specs.State.{state_of}
use Rattle.fuse_store_tree.specs.inner.Preparing.{IsMadeAside}
use Rattle.fuse_store_tree.proofs.Asides.{aside_then, made_kept, made_piece}
use Rattle.fuse_store_tree.proofs.made.make_pieces.Goals as goal

pub returns-in-Err-clause-aside : goal.returns-in-Err-clause-aside
returns-in-Err-clause-aside g c =
    aside_then (state_of g.D.Disk c.args.file.now) (state_of g.D.Disk c.loop-block.file) (state_of g.D.Disk c.write_aside.new.file)
    c.args.written.now.items c.loop-block.written.items c.write_aside.new.written.items c.loop-block.invariant.aside c.write_aside.ensures.aside

pub returns-in_err-push-clause-aside : goal.returns-in_err-push-clause-aside
returns-in_err-push-clause-aside g c =
    aside_then (state_of g.D.Disk c.args.file.now) (state_of g.D.Disk c.loop-block.file) (state_of g.D.Disk c.write_aside.new.file)
    c.args.written.now.items c.loop-block.written.items c.write_aside.new.written.items c.loop-block.invariant.aside c.write_aside.ensures.aside

pub loop-block-preserved : goal.loop-block-preserved
loop-block-preserved g c =
    let s = state_of g.D.Disk c.loop-block.file in
    let t = state_of g.D.Disk c.write_aside.new.file in
    let ws = c.loop-block.written.items in
    let us = c.write_aside.new.written.items in
    let begins = c.loop-block.invariant.begins in
    let ends = c.loop-block.invariant.ends in
    let few = c.min-count.ensures in
    let inside = c.loop-block-test.true in
    record {
      begins = omega (arith, begins);
      ends = ends;
      aside = aside_then (state_of g.D.Disk c.args.file.now) s t c.args.written.now.items ws us c.loop-block.invariant.aside c.write_aside.ensures.aside;
      idle = λ none. absurd (c.in-Ok.ensures.more none);
      made = subst (All (IsMadeAside t us c.args.at c.args.bytes.now)) (sym c.in_ok-push.ensures.items)
          (All-push (IsMadeAside t us c.args.at c.args.bytes.now) c.loop-block.pieces.items _
          (made_kept s t ws us c.args.at c.args.bytes.now c.loop-block.pieces.items c.write_aside.ensures.aside c.loop-block.invariant.made)
          (made_piece t us c.args.at c.args.bytes.now c.in-Ok.extent c.loop-block.block c.min-count.result _ begins
          (omega (arith, begins, ends, few, inside)) (omega (arith, begins)) c.in-Ok.ensures.written));
    }
