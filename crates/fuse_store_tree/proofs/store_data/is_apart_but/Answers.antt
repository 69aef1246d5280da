use Rattle.std.proofs.Common.{arith, sym, ◌∙◌}
use Rattle.std.specs.Prelude.{slice_index_or}
use Rattle.fuse_store_tree.proofs.Asides.{apart_more, no_extent, not_true, not_false}
use Rattle.fuse_store_tree.proofs.store_data.is_apart_but.Goals.{else-i-but-via-then-i-but+then-not-other+else-not-are_apart, else-i-but-via-then-i-but+else-not-other, else-i-but-via-else-i-but}
use Rattle.fuse_store_tree.proofs.store_data.is_apart_but.Goals as goal

pub returns-then-not-are_apart-clause-none : goal.returns-then-not-are_apart-clause-none
returns-then-not-are_apart-clause-none c = λ none hides.
    c.are_apart.ensures.meets c.if-not-are_apart.true (hides c.loop-i.i no_extent c.loop-i-test.true c.if-i-but.true
    (not_true (slice_index_or c.args.written.now c.loop-i.i no_extent).listed c.if-not-other.true))

pub loop-i-preserved : goal.loop-i-preserved
loop-i-preserved c =
    let low = c.loop-i-test.true in
    record {
      low = omega (arith, low);
      apart = apart_more c.args.written.now c.args.but c.args.extent c.loop-i.i no_extent low c.loop-i.invariant.apart (λ off unlisted. elim c.else-i-but.branch [
        | else-i-but-via-then-i-but+then-not-other+else-not-are_apart w ↦ w.are_apart.ensures.apart w.if-not-are_apart.false
        | else-i-but-via-then-i-but+else-not-other w ↦
            absurd (let e = sym unlisted ∙ not_false (slice_index_or c.args.written.now c.loop-i.i no_extent).listed w.if-not-other.false in cc)
        | else-i-but-via-else-i-but w ↦ absurd (off w.if-i-but.false)
      ]);
    }

pub returns-clause-some : goal.returns-clause-some
returns-clause-some c = λ all j d low. c.loop-i.invariant.apart j d (let past = c.loop-i-test.false in omega (arith, low, past))
