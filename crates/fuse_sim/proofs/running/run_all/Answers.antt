use Rattle.std.proofs.Common.{◌≡◌, false, [], length, drop, ap, subst, arith}
use Rattle.std.proofs.lemmas.List.{take_all}
use Rattle.std.proofs.lemmas.Result.{err_from_is_err_and}
use Rattle.fuse_keeper.specs.Model.{serving}
use Rattle.fuse_keeper.specs.Group.{ids_of}
use Rattle.fuse_sim.specs.Driving.{told_in, told_for, Opened, StoodBefore, performed_in}
use Rattle.fuse_sim.specs.Twice.{seen_of}
use Rattle.fuse_sim.specs.HandedOn.{performances}
use Rattle.fuse_sim.proofs.Openings.{opened_none, stood_none, medium_itself, medium_then}
use Rattle.fuse_sim.proofs.Endings.{moved_none, moved_more, moved_opened, stopped_opened, stopped_emptied, moved_all, moved_stands, moved_left, moved_outcomes}
use Rattle.fuse_sim.proofs.Endings.{moved_stood, moved_outcomes_before, moved_asked, stopped_stood, stopped_medium, stopped_firm, stopped_asked}
use Rattle.fuse_sim.proofs.Endings.{moved_count, moved_records, stopped, stopped_store, stopped_records}
use Rattle.fuse_sim.proofs.AskedGroups.{performed_none}
use Rattle.fuse_sim.proofs.running.run_all.Goals as goal

pub loop-at-init : goal.loop-at-init
loop-at-init g c =
    let k = g.K.Keeper in
    record {
      within = omega arith;
      moved = moved_none (serving g.service k.model) (told_in (told_for g.service k.told) c.args.keeper.now) c.args.events.now (ids_of c.new-pending.result.items) c.new-outcomes.result.items
          (ap ids_of {y = []} c.new-pending.ensures.items) c.new-outcomes.ensures.items;
      few = omega (arith, ap length c.new-pending.ensures.items);
      going = c.requires.1.1.1;
      opened = opened_none (serving g.service k.model) (told_for g.service k.told) k.became g.met.K.Keeper.counted (λ x. (k.told x).has_failed ≡ false) c.args.keeper.now c.requires.1.1.1;
      honest = λ is. is;
      stood = stood_none (serving g.service k.model) (told_for g.service k.told) k.became g.met.K.Keeper.counted (λ x. (k.told x).has_failed ≡ false) c.args.keeper.now c.requires.1.1.1;
      asked = performed_none k.performed g.met.K.Keeper.log (λ x. (k.told x).has_failed ≡ false) c.args.keeper.now c.requires.1.1.1;
      serves = c.requires.1.1.0;
      medium = medium_itself (serving g.service k.model) (told_for g.service k.told) c.args.keeper.now;
    }

pub loop-at-preserved : goal.loop-at-preserved
loop-at-preserved g c =
    let k = g.K.Keeper in
    record {
      within = c.in_ok-at.ensures.within;
      moved = moved_more (serving g.service g.K.Keeper.model) (c.histories_grow.ensures g.service) (told_in (told_for g.service k.told) c.args.keeper.now) (told_in (told_for g.service k.told) c.loop-at.keeper)
          (told_in (told_for g.service k.told) c.run_next.new.keeper)
          c.args.events.now c.loop-at.at c.in_ok-at.field-0 (ids_of c.loop-at.pending.items) (ids_of c.run_next.new.pending.items) c.loop-at.outcomes.items
          c.run_next.new.outcomes.items c.run_next.ensures.honest c.loop-at.invariant.moved c.in_ok-at.ensures.ok;
      few = c.in_ok-at.ensures.few;
      going = c.in_ok-at.ensures.going;
      opened = moved_opened (serving g.service g.K.Keeper.model) (c.still_stands.ensures g.service) (told_for g.service k.told) k.became g.met.K.Keeper.counted c.args.keeper.now c.loop-at.keeper c.run_next.new.keeper c.args.events.now
          c.loop-at.at c.in_ok-at.field-0
          (ids_of c.loop-at.pending.items) c.loop-at.outcomes.items c.loop-at.invariant.moved c.loop-at.invariant.opened c.in_ok-at.ensures.opens;
      honest = λ is. c.loop-at.invariant.honest (c.run_next.ensures.honest is);
      stood = moved_stood (serving g.service g.K.Keeper.model) (c.still_stands.ensures g.service) (told_for g.service k.told) k.became g.met.K.Keeper.counted c.args.keeper.now c.loop-at.keeper c.run_next.new.keeper c.args.events.now
          c.loop-at.at c.in_ok-at.field-0
          (ids_of c.loop-at.pending.items) c.loop-at.outcomes.items c.loop-at.invariant.moved c.loop-at.invariant.opened c.loop-at.invariant.stood
          c.in_ok-at.ensures.opens;
      asked = moved_asked (serving g.service g.K.Keeper.model) k.performed g.met.K.Keeper.log (told_in (told_for g.service k.told) c.args.keeper.now) (told_in (told_for g.service k.told) c.loop-at.keeper)
          (told_in (told_for g.service k.told) c.run_next.new.keeper) c.args.keeper.now c.loop-at.keeper c.run_next.new.keeper c.args.events.now c.loop-at.at c.in_ok-at.field-0
          (ids_of c.loop-at.pending.items) (ids_of c.run_next.new.pending.items) c.loop-at.outcomes.items c.run_next.new.outcomes.items
          c.loop-at.invariant.moved c.loop-at.invariant.asked c.in_ok-at.ensures.ok c.in_ok-at.ensures.one c.in_ok-at.ensures.asked;
      serves = c.run_next.ensures.stays;
      medium = medium_then (serving g.service g.K.Keeper.model) (told_for g.service k.told) c.args.keeper.now c.loop-at.keeper c.run_next.new.keeper (λ x. (k.told x).has_failed ≡ false)
          c.loop-at.invariant.going c.loop-at.invariant.medium c.in_ok-at.ensures.opens.medium;
    }

pub returns-in_err-at-clause-after_fault : goal.returns-in_err-at-clause-after_fault
returns-in_err-at-clause-after_fault g c =
    let k = g.K.Keeper in
    let p = err_from_is_err_and c.from_residual.result c.from_residual.ensures.1 in
    rw (p.1, p.2) (stopped (serving g.service g.K.Keeper.model) (c.still_stands.ensures g.service) (seen_of (told_for g.service k.told) k.became k.performed g.K.Restart.refuses) c.args.keeper.now c.loop-at.keeper c.run_next.new.keeper c.args.events.now
    c.loop-at.at c.in_err-at.field-0.0 (ids_of c.loop-at.pending.items) c.loop-at.outcomes.items
    (λ k. (g.met.K.Keeper.sound k).clean_is_honest) c.loop-at.invariant.moved c.in_err-at.ensures.err)

pub returns-in_err-at-clause-records_at_fault : goal.returns-in_err-at-clause-records_at_fault
returns-in_err-at-clause-records_at_fault g c =
    let k = g.K.Keeper in
    let p = err_from_is_err_and c.from_residual.result c.from_residual.ensures.1 in
    rw (p.1, p.2) (stopped_records (serving g.service g.K.Keeper.model) (seen_of (told_for g.service k.told) k.became k.performed g.K.Restart.refuses) c.args.keeper.now c.loop-at.keeper c.run_next.new.keeper c.args.events.now
    c.loop-at.at c.in_err-at.field-0.0 (ids_of c.loop-at.pending.items) c.loop-at.outcomes.items
    (λ k. (g.met.K.Keeper.sound k).clean_is_honest) c.loop-at.invariant.moved c.in_err-at.ensures.err)

pub returns-in_err-at-clause-store : goal.returns-in_err-at-clause-store
returns-in_err-at-clause-store g c =
    let k = g.K.Keeper in
    let p = err_from_is_err_and c.from_residual.result c.from_residual.ensures.1 in
    rw (p.1, p.2) (stopped_store (serving g.service g.K.Keeper.model) (c.still_stands.ensures g.service) (seen_of (told_for g.service k.told) k.became k.performed g.K.Restart.refuses) c.args.keeper.now c.loop-at.keeper c.run_next.new.keeper
    c.args.events.now c.loop-at.at c.in_err-at.field-0.0 (ids_of c.loop-at.pending.items) c.loop-at.outcomes.items
    (λ k. (g.met.K.Keeper.sound k).clean_is_honest) c.loop-at.invariant.moved c.loop-at.invariant.opened c.in_err-at.ensures.err)

pub returns-in_err-at-clause-opened_before : goal.returns-in_err-at-clause-opened_before
returns-in_err-at-clause-opened_before g c =
    let k = g.K.Keeper in
    let p = err_from_is_err_and c.from_residual.result c.from_residual.ensures.1 in
    rw (p.1, p.2) (stopped_opened (serving g.service g.K.Keeper.model) (seen_of (told_for g.service k.told) k.became k.performed g.K.Restart.refuses) g.met.K.Keeper.counted c.args.keeper.now c.loop-at.keeper
    c.run_next.new.keeper c.args.events.now c.loop-at.at c.in_err-at.field-0.0
    c.loop-at.invariant.opened c.in_err-at.ensures.err)

pub returns-in_err-at-clause-emptied : goal.returns-in_err-at-clause-emptied
returns-in_err-at-clause-emptied g c =
    let k = g.K.Keeper in
    let p = err_from_is_err_and c.from_residual.result c.from_residual.ensures.1 in
    rw (p.1, p.2) (stopped_emptied (serving g.service g.K.Keeper.model) (seen_of (told_for g.service k.told) k.became k.performed g.K.Restart.refuses) g.met.K.Keeper.counted c.args.keeper.now c.loop-at.keeper
    c.run_next.new.keeper c.args.events.now c.loop-at.at c.in_err-at.field-0.0
    c.loop-at.invariant.opened c.in_err-at.ensures.err)

pub returns-in_err-at-clause-honest : goal.returns-in_err-at-clause-honest
returns-in_err-at-clause-honest g c = λ is. c.loop-at.invariant.honest (c.run_next.ensures.honest is)

pub returns-clause-opened : goal.returns-clause-opened
returns-clause-opened g c =
    subst (Opened (told_for g.service g.K.Keeper.told) g.K.Keeper.became c.args.keeper.now c.loop-at.keeper) (take_all c.loop-at.at c.args.events.now c.loop-at-test.false)
    c.loop-at.invariant.opened

pub returns-clause-tree_stands : goal.returns-clause-tree_stands
returns-clause-tree_stands g c =
    moved_stands (serving g.service g.K.Keeper.model) (c.still_stands.ensures g.service) _ _ c.args.events.now _ _ _
    (moved_all (serving g.service g.K.Keeper.model) (told_in (told_for g.service g.K.Keeper.told) c.args.keeper.now) (told_in (told_for g.service g.K.Keeper.told) c.loop-at.keeper) c.args.events.now _ c.loop-at.at _ _
    c.loop-at-test.false c.loop-at.invariant.moved)

pub returns-clause-kept : goal.returns-clause-kept
returns-clause-kept g c =
    moved_left (serving g.service g.K.Keeper.model) (told_for g.service g.K.Keeper.told) c.args.keeper.now c.loop-at.keeper c.args.events.now _ _ _ (λ k. (g.met.K.Keeper.sound k).one_holding)
    (moved_all (serving g.service g.K.Keeper.model) (told_in (told_for g.service g.K.Keeper.told) c.args.keeper.now) (told_in (told_for g.service g.K.Keeper.told) c.loop-at.keeper) c.args.events.now _ c.loop-at.at _ _
    c.loop-at-test.false c.loop-at.invariant.moved)

pub returns-clause-outcomes : goal.returns-clause-outcomes
returns-clause-outcomes g c =
    moved_outcomes (serving g.service g.K.Keeper.model) _ _ c.args.events.now _ _ _
    (moved_all (serving g.service g.K.Keeper.model) (told_in (told_for g.service g.K.Keeper.told) c.args.keeper.now) (told_in (told_for g.service g.K.Keeper.told) c.loop-at.keeper) c.args.events.now _ c.loop-at.at _ _
    c.loop-at-test.false c.loop-at.invariant.moved)

pub returns-clause-count : goal.returns-clause-count
returns-clause-count g c =
    moved_count (serving g.service g.K.Keeper.model) _ _ c.args.events.now _ _ _
    (moved_all (serving g.service g.K.Keeper.model) (told_in (told_for g.service g.K.Keeper.told) c.args.keeper.now) (told_in (told_for g.service g.K.Keeper.told) c.loop-at.keeper) c.args.events.now _ c.loop-at.at _ _
    c.loop-at-test.false c.loop-at.invariant.moved)

pub returns-clause-records : goal.returns-clause-records
returns-clause-records g c =
    moved_records (serving g.service g.K.Keeper.model) _ _ c.args.events.now _ _ _
    (moved_all (serving g.service g.K.Keeper.model) (told_in (told_for g.service g.K.Keeper.told) c.args.keeper.now) (told_in (told_for g.service g.K.Keeper.told) c.loop-at.keeper) c.args.events.now _ c.loop-at.at _ _
    c.loop-at-test.false c.loop-at.invariant.moved)

pub returns-in_err-at-clause-stood_at_fault : goal.returns-in_err-at-clause-stood_at_fault
returns-in_err-at-clause-stood_at_fault g c =
    let k = g.K.Keeper in
    let p = err_from_is_err_and c.from_residual.result c.from_residual.ensures.1 in
    rw (p.1, p.2) (stopped_stood (serving g.service g.K.Keeper.model) (seen_of (told_for g.service k.told) k.became k.performed g.K.Restart.refuses) g.met.K.Keeper.counted c.args.keeper.now c.loop-at.keeper
    c.run_next.new.keeper c.args.events.now c.loop-at.at c.in_err-at.field-0.0
    c.loop-at.invariant.stood c.in_err-at.ensures.err)

pub returns-in_err-at-clause-asked_before : goal.returns-in_err-at-clause-asked_before
returns-in_err-at-clause-asked_before g c =
    let k = g.K.Keeper in
    let p = err_from_is_err_and c.from_residual.result c.from_residual.ensures.1 in
    rw (p.1, p.2) (stopped_asked (serving g.service g.K.Keeper.model) (seen_of (told_for g.service k.told) k.became k.performed g.K.Restart.refuses) g.met.K.Keeper.log c.args.keeper.now
    c.loop-at.keeper c.run_next.new.keeper c.args.events.now c.loop-at.at c.in_err-at.field-0.0
    (ids_of c.loop-at.pending.items) c.loop-at.outcomes.items c.loop-at.invariant.moved c.loop-at.invariant.asked c.in_err-at.ensures.err
    c.in_err-at.ensures.err_asked)

pub returns-in_err-at-clause-medium : goal.returns-in_err-at-clause-medium
returns-in_err-at-clause-medium g c =
    let k = g.K.Keeper in
    stopped_medium (serving g.service g.K.Keeper.model) (seen_of (told_for g.service k.told) k.became k.performed g.K.Restart.refuses) (λ x. (k.told x).has_failed ≡ false) c.args.keeper.now c.loop-at.keeper
    c.run_next.new.keeper c.args.events.now c.loop-at.at c.in_err-at.field-0.0 c.loop-at.invariant.going c.loop-at.invariant.medium c.in_err-at.ensures.err

pub returns-in_err-at-clause-firm : goal.returns-in_err-at-clause-firm
returns-in_err-at-clause-firm g c =
    let k = g.K.Keeper in
    let p = err_from_is_err_and c.from_residual.result c.from_residual.ensures.1 in
    rw (p.1, p.2) (stopped_firm (serving g.service g.K.Keeper.model) (seen_of (told_for g.service k.told) k.became k.performed g.K.Restart.refuses) c.args.keeper.now c.loop-at.keeper c.run_next.new.keeper
    c.args.events.now (drop c.loop-at.at c.args.events.now) c.loop-at.at c.in_err-at.field-0.0 (ids_of c.loop-at.pending.items) c.loop-at.outcomes.items
    c.loop-at.invariant.moved c.in_err-at.ensures.err)

pub returns-clause-firm : goal.returns-clause-firm
returns-clause-firm g c = c.loop-at.invariant.moved.ran.firm

pub returns-clause-stood_before : goal.returns-clause-stood_before
returns-clause-stood_before g c =
    subst (StoodBefore (told_for g.service g.K.Keeper.told) g.K.Keeper.became c.args.keeper.now c.loop-at.keeper) (take_all c.loop-at.at c.args.events.now c.loop-at-test.false)
    c.loop-at.invariant.stood

pub returns-clause-asked : goal.returns-clause-asked
returns-clause-asked g c =
    subst (λ es. performed_in g.K.Keeper.performed c.args.keeper.now c.loop-at.keeper (performances g.service es))
    (take_all c.loop-at.at c.args.events.now c.loop-at-test.false) c.loop-at.invariant.asked

pub returns-clause-outcomes_before : goal.returns-clause-outcomes_before
returns-clause-outcomes_before g c =
    moved_outcomes_before (serving g.service g.K.Keeper.model) _ _ c.args.events.now _ _ _
    (moved_all (serving g.service g.K.Keeper.model) (told_in (told_for g.service g.K.Keeper.told) c.args.keeper.now) (told_in (told_for g.service g.K.Keeper.told) c.loop-at.keeper) c.args.events.now _ c.loop-at.at _ _
    c.loop-at-test.false c.loop-at.invariant.moved)
