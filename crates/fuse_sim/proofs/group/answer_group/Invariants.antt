use Rattle.std.proofs.Common.{◌≡◌, ◌≤◌, ◌+◌, ◌++◌, length, drop, vec_capacity}
use Rattle.std.specs.Vec.Iter.{into_iter_items}
use Rattle.fuse_keeper.specs.Group.{ids_of}
use Rattle.fuse_sim.specs.Driving.{settles_in}
use Rattle.fuse_sim.specs.inner.Running.{answers_in, outcomes_by, HasAnswers}
use Rattle.fuse_sim.proofs.Outcomes.{AddsFirst}
use Rattle.fuse_sim.proofs.group.answer_group.Given as goal

abbrev pub invariant-loop-place : goal.invariant-loop-place
invariant-loop-place g l = record {
  outcomes : AddsFirst l.fn.outcomes.items l.outcomes.items (outcomes_by g.service (drop l.place l.run) (answers_in (into_iter_items l.answers)))
      (outcomes_by g.service l.run (answers_in l.fn.dones.items));
  pending : ids_of l.pending.items ++ settles_in g.service (drop l.place l.run) ≡ ids_of l.fn.pending.items ++ settles_in g.service l.run;
  enough : HasAnswers g.service (drop l.place l.run) (answers_in (into_iter_items l.answers));
  pushed : length l.outcomes.items ≡ length l.fn.outcomes.items + l.place;
  room : vec_capacity l.outcomes ≡ vec_capacity l.fn.outcomes;
  places : length l.pending.items + length (into_iter_items l.answers) ≤ vec_capacity l.fn.pending;
  kept : vec_capacity l.pending ≡ vec_capacity l.fn.pending;
}

abbrev pub ghost-outcome_of_event : goal.ghost-outcome_of_event
ghost-outcome_of_event g a = g.service

abbrev pub ghost-settle : goal.ghost-settle
ghost-settle g a = g.service
