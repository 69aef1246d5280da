use Rattle.std.proofs.Common.{◌∙◌, ◌+◌, ◌-◌, ◌^◌, drop, length, sym, ap, subst, arith}
use Rattle.std.proofs.lemmas.List.{drop_all}
use Rattle.fuse_request.specs.declared.class.Class.TheVariants.{Silent}
use Rattle.fuse_request.specs.Classes.{class_for}
use Rattle.fuse_session.specs.Counting.{plus, counted_one, is_interrupt}
use Rattle.fuse_session.specs.inner.Counting.{IsBelow}
use Rattle.fuse_session.specs.inner.Group.{repeats_in, tallied, left_by}
use Rattle.fuse_session.proofs.Counted.{none_plus, plus_none, tallied_more, plus_below, below_more, one_counted_below, class_at}
use Rattle.fuse_session.proofs.Sends.{left_at}
use Rattle.fuse_session.proofs.counts.count_all.Goals as goal

pub loop-place-init : goal.loop-place-init
loop-place-init g c = record {
  next = omega arith;
  so_far = none_plus (tallied g.service c.args.messages.now (repeats_in c.args.dones.now));
  below = record {
    messages = omega arith;
    kept = omega arith;
    repeated = omega arith;
    seen = omega arith;
    bare = omega arith;
    silent =
        omega arith;
    interrupts = omega arith;
  };
}

pub loop-place-preserved : goal.loop-place-preserved
loop-place-preserved g c =
    let messages = c.args.messages.now in
    let i = c.loop-place.place in
    let repeated = drop c.loop-place.next (repeats_in c.args.dones.now) in
    let bytes = c.as_slice.result.now in
    let class = class_at g.service messages c.args.classes.now i c.index-messages-place.result bytes Silent c.requires.1.0 c.loop-place-test.true
    c.index-messages-place.is c.as_slice.ensures in
    let one = c.count_one-one.ensures ∙ ap (λ k. counted_one k c.repeat_at.result (is_interrupt bytes)) class
    ∙ ap (λ b. counted_one (class_for g.service bytes) b (is_interrupt bytes)) c.repeat_at.ensures in
    let lt = c.loop-place-test.true in
    record {
      next = c.used_after-next.ensures.within;
      so_far = tallied_more g.service (drop i messages) (drop (i + 1) messages) repeated _ bytes c.loop-place.counts c.count_one-one.result c.sum_of-counts.result _
          (left_at messages i c.index-messages-place.result bytes lt c.index-messages-place.is c.as_slice.ensures) one c.sum_of-counts.ensures
          (c.used_after-next.ensures.left ∙ ap (λ k. left_by k repeated) class) c.loop-place.invariant.so_far;
      below = subst (λ x. IsBelow x (i + 1)) (sym c.sum_of-counts.ensures)
          (plus_below c.loop-place.counts c.count_one-one.result i 1 c.loop-place.invariant.below
          (one_counted_below c.count_one-one.result _ _ _ c.count_one-one.ensures));
    }

pub sum_of-counts-requires-clause-a : goal.sum_of-counts-requires-clause-a
sum_of-counts-requires-clause-a g c = below_more c.loop-place.counts c.loop-place.place (2 ^ 63 - 1) (omega (arith, c.loop-place-test.true, c.requires.1.1))
    c.loop-place.invariant.below

pub sum_of-counts-requires-clause-b : goal.sum_of-counts-requires-clause-b
sum_of-counts-requires-clause-b g c = below_more c.count_one-one.result 1 (2 ^ 63 - 1) (omega arith)
    (one_counted_below c.count_one-one.result _ _ _ c.count_one-one.ensures)

pub returns-clause-tallied : goal.returns-clause-tallied
returns-clause-tallied g c =
    let messages = c.args.messages.now in
    let i = c.loop-place.place in
    sym (plus_none c.loop-place.counts) ∙ ap (λ x. plus c.loop-place.counts (tallied g.service x (drop c.loop-place.next (repeats_in c.args.dones.now))))
    (sym (drop_all i messages c.loop-place-test.false)) ∙ c.loop-place.invariant.so_far

pub returns-clause-below : goal.returns-clause-below
returns-clause-below g c = below_more c.loop-place.counts c.loop-place.place (length c.args.messages.now) (omega arith) c.loop-place.invariant.below
