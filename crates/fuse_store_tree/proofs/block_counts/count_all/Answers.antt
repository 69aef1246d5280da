use Rattle.std.proofs.Common.{inl, inr, refl, sym, arith, ◌∙◌}
use Rattle.sqlite.specs.Held.{state}
use Rattle.fuse_store_tables.specs.inner.Following.{earlier}
use Rattle.fuse_store_tree.specs.inner.Laws.{looked_then, looked_clean, looked_still, looked_fails}
use Rattle.fuse_store_tree.proofs.BlocksCounted.{counted_nothing}
use Rattle.fuse_store_tree.proofs.StretchesCounted.{counted_apart, to_first}
use Rattle.fuse_store_tree.proofs.block_counts.count_all.Goals as goal

pub parts-init : goal.parts-init
parts-init g c = record {
  node = refl;
  from = refl;
  end = omega arith;
  few = omega arith;
  looks = looked_still (state g.S.Store c.args.conn.now);
  value = λ clean file k at sound. sym (counted_nothing file k c.args.node c.args.to c.args.to (omega arith));
  last = inr refl;
}

pub parts-preserved : goal.parts-preserved
parts-preserved g c =
    let a = state g.S.Store c.args.conn.now in
    let b = state g.S.Store c.parts.conn in
    let d = state g.S.Store c.count_last.new.conn in
    let before = c.parts.invariant in
    let test = c.parts-test.true in
    let begin = c.in-Ok.ensures.begin in
    let some = c.in-Ok.ensures.some in
    let few = c.in-Ok.ensures.few in
    record {
      node = refl;
      from = refl;
      end = omega (arith, before.end, some);
      few = omega (arith, before.few, before.end, some, few);
      looks = looked_then a b d before.looks c.in-Ok.ensures.looks;
      value = λ clean file k at sound.
          let mid = looked_clean b d c.in-Ok.ensures.looks clean in
          let later = before.value mid file k at sound in
          let now = c.in-Ok.ensures.value clean file k (before.looks.same mid k at) sound in
          let apart = counted_apart file k c.args.node c.in-Ok.last.begin c.parts.end c.args.to (omega (arith, some)) before.end in
          omega (arith, later, now, apart);
      last = inl begin;
    }

pub returns-in-Err-clause-fails : goal.returns-in-Err-clause-fails
returns-in-Err-clause-fails g c =
    looked_fails (state g.S.Store c.args.conn.now) (state g.S.Store c.parts.conn) (state g.S.Store c.count_last.new.conn) c.parts.invariant.looks
    c.in-Err.ensures.fails

pub returns-in-Err-clause-fault : goal.returns-in-Err-clause-fault
returns-in-Err-clause-fault g c clean file k at sound =
    let b = state g.S.Store c.parts.conn in
    let d = state g.S.Store c.count_last.new.conn in
    c.in-Err.ensures.fault clean file k (c.parts.invariant.looks.same (earlier b d _ c.in-Err.ensures.fails.survives clean) k at) sound

pub returns-clause-value : goal.returns-clause-value
returns-clause-value g c clean file k at sound =
    let before = c.parts.invariant in
    let test = c.parts-test.false in
    before.value clean file k at sound ∙ to_first file k c.args.node c.args.from c.parts.end c.args.to test before.last
