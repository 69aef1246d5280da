use Rattle.std.proofs.Common.{◌≤◌, arith, length, subst}
use Rattle.std.proofs.lemmas.Grind.{common_steps}
use Rattle.std.proofs.lemmas.List.{take_all}
use Rattle.fuse_keeper.specs.Stands.{AreThese, PerformedBy, without}
use Rattle.fuse_keeper.specs.Group.{entries_of, ids_of, IsPerformed}
use Rattle.fuse_keeper.specs.Taking.{TakesAll}
use Rattle.fuse_keeper.specs.Plain.{mapped}
use Rattle.fuse_keeper.specs.inner.Overlay.{over}
use Rattle.fuse_keeper.proofs.Performing.{one_more_of, ids_more, entry_at_place}
use Rattle.fuse_keeper.proofs.Overlays.{took_rowed_at}
use Rattle.fuse_keeper.proofs.InARow.{one_more_taken_of}
use Rattle.fuse_keeper.proofs.group.take_all.Goals as goal

pub take_one-requires-clause-performed : goal.take_one-requires-clause-performed
take_one-requires-clause-performed g c = entry_at_place (IsPerformed g.F.FileSystem.model.service) c.args.group.now c.loop-one.one-index _ c.loop-one-test.true c.requires

pub returns-in-Err-clause-fault : goal.returns-in-Err-clause-fault
returns-in-Err-clause-fault g c = λ rowed. c.in-Err.ensures.fault (c.loop-one.invariant.rowed rowed)

pub loop-one-preserved : goal.loop-one-preserved
loop-one-preserved g c =
    let base = without (ids_of c.args.settled.now) (mapped c.args.records.now) in
    record {
      performed = λ s h t so each. one_more_of g.F.FileSystem.model c.args.group.now c.loop-one.one-index _ _ _ c.in-Ok.done
          (record { state = s; history = h; settled = t }) c.loop-one.dones.items c.push.new.self.items c.loop-one-test.true each c.in-Ok.ensures.took (c.loop-one.invariant.performed s h t so each) c.in_ok-push.ensures.items;
      taken = one_more_taken_of g.F.FileSystem.model c.args.group.now c.loop-one.one-index _ _ _ _ c.in-Ok.done c.loop-one.dones.items
          c.push.new.self.items c.loop-one-test.true c.in-Ok.ensures.took c.loop-one.invariant.taken c.in_ok-push.ensures.items;
      count = grind (arith, common_steps);
      ready = c.in-Ok.ensures.ready;
      rowed = λ rowed. took_rowed_at g.F.FileSystem.model c.args.group.now c.loop-one.one-index _
          (record { rows = g.F.FileSystem.held c.loop-one.draft.rows; records = over c.loop-one.draft.added.items base })
          (record { rows = g.F.FileSystem.held c.take_one.new.draft.rows; records = over c.take_one.new.draft.added.items base }) c.in-Ok.done
          c.in-Ok.ensures.took (c.loop-one.invariant.rowed rowed);
      ids = ids_more g.F.FileSystem.model.service c.args.group.now c.loop-one.one-index _ _ _ c.loop-one-test.true c.loop-one.invariant.ids c.in-Ok.ensures.ids;
    }

pub returns-clause-performed : goal.returns-clause-performed
returns-clause-performed g c = λ s h t so each.
    let past : length c.args.group.now ≤ c.loop-one.one-index = c.loop-one-test.false in
    subst (λ group. PerformedBy g.F.FileSystem.model (AreThese g.F.FileSystem.model (g.F.FileSystem.held c.loop-one.draft.rows)
    (over c.loop-one.draft.added.items (without (ids_of c.args.settled.now) (mapped c.args.records.now)))) (record { state = s; history = h; settled = t }) (entries_of group)
    c.loop-one.dones.items)
    (take_all c.loop-one.one-index c.args.group.now past) (c.loop-one.invariant.performed s h t so each)

pub returns-clause-taken : goal.returns-clause-taken
returns-clause-taken g c =
    let past : length c.args.group.now ≤ c.loop-one.one-index = c.loop-one-test.false in
    let base = without (ids_of c.args.settled.now) (mapped c.args.records.now) in
    subst (λ group. TakesAll g.F.FileSystem.model (record { rows = g.F.FileSystem.held c.args.rows.now; records = base }) (entries_of group)
    (record { rows = g.F.FileSystem.held c.loop-one.draft.rows; records = over c.loop-one.draft.added.items base }) c.loop-one.dones.items)
    (take_all c.loop-one.one-index c.args.group.now past) c.loop-one.invariant.taken
