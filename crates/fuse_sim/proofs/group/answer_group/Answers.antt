use Rattle.std.proofs.Common.{◌+◌, ◌++◌, ◌∷◌, [], sym, ap, subst, ◌∙◌, length, length-append, vec_capacity, drop, arith}
use Rattle.std.specs.Vec.Iter.{into_iter_items}
use Rattle.fuse_keeper.specs.Group.{ids_of}
use Rattle.fuse_sim.specs.Driving.{settles_in}
use Rattle.fuse_sim.specs.inner.Running.{answers_in, outcomes_by, HasAnswers}
use Rattle.fuse_sim.proofs.Outcomes.{adds_one, settled_one, answers_here, places_left}
use Rattle.fuse_sim.proofs.group.answer_group.Goals as goal

pub loop-place-preserved : goal.loop-place-preserved
loop-place-preserved g c =
    let V = g.service in
    let inv = c.loop-place.invariant in
    let run = c.args.run.now in
    let i = c.loop-place.place in
    let e = c.index-run-place.result in
    let old = into_iter_items c.loop-place.answers in
    let new = into_iter_items c.outcome_of_event.new.answers in
    let left = c.outcome_of_event.ensures.left in
    let here = answers_here V run i e (answers_in old) c.loop-place-test.true c.index-run-place.is inv.enough in
    record {
      outcomes = adds_one V c.args.outcomes.now.items c.loop-place.outcomes.items c.push_reserved.new.self.items c.outcome_of_event.result run i e
          (answers_in old) (answers_in new) (outcomes_by V run (answers_in c.args.dones.items))
          c.loop-place-test.true c.index-run-place.is inv.outcomes c.outcome_of_event.ensures.outcome left c.push_reserved.ensures.items;
      pending = settled_one V (ids_of c.loop-place.pending.items) (ids_of c.settle.new.pending.items) (ids_of c.args.pending.now.items ++ settles_in V run) run i e
          c.loop-place-test.true c.index-run-place.is inv.pending c.settle.ensures.settled;
      enough = subst (HasAnswers V (drop (i + 1) run)) (sym left) here.1;
      pushed = omega (arith, ap length c.push_reserved.ensures.items, length-append c.loop-place.outcomes.items (c.outcome_of_event.result ∷ []), inv.pushed);
      room = c.push_reserved.ensures.capacity ∙ inv.room;
      places = places_left V e c.loop-place.pending.items c.settle.new.pending.items old new (vec_capacity c.args.pending.now) here.0 left
          c.settle.ensures.settled inv.places;
      kept = c.settle.ensures.capacity ∙ inv.kept;
    }
