use Rattle.sqlite.specs.Held.{state}
use Rattle.fuse_store_tree.specs.inner.Laws.{looked_then}
use Rattle.fuse_store_tree.proofs.windows.read_windows.Goals as goal

pub returns-in_default-clause-looks : goal.returns-in_default-clause-looks
returns-in_default-clause-looks g c =
    looked_then (state g.S.Store c.args.conn.now) (state g.S.Store c.loop-slices.conn) (state g.S.Store c.select_block_keys.new.conn) c.loop-slices.invariant.looks
    c.in-Ok.ensures.looks

pub loop-slices-preserved : goal.loop-slices-preserved
loop-slices-preserved g c = record {
  node = c.in-Some.ensures.0;
  block = c.in-Some.ensures.1;
  looks = looked_then (state g.S.Store c.args.conn.now) (state g.S.Store c.loop-slices.conn) (state g.S.Store c.select_block_keys.new.conn) c.loop-slices.invariant.looks
      c.in-Ok.ensures.looks;
}
