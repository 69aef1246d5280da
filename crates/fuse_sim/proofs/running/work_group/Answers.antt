use Rattle.std.proofs.Common.{◌≡◌, ◌≤◌, ◌+◌, List, All, rules, vec_capacity, inl, Some, IfSome, sym, ap, subst, ◌∙◌, length, arith}
use Rattle.std.specs.Option.{option_copied_mut}
use Rattle.std.proofs.lemmas.List.{length-map}
use Rattle.std.proofs.lemmas.Result.{err_from_is_err_and}
use Rattle.fuse_wire.specs.declared.id.Id.{Id}
use Rattle.fuse_keeper.specs.Model.{serving}
use Rattle.fuse_keeper.specs.KeeperState.{of_service}
use Rattle.fuse_wire.specs.declared.moment.Moment.{Moment}
use Rattle.fuse_request.specs.declared.request.Request.{Request}
use Rattle.fuse_keeper.specs.Group.{entries_of, HasId, IsPerformed, ids_of, handed_to}
use Rattle.fuse_keeper.specs.History.{kept_of}
use Rattle.fuse_sim.proofs.AskedGroups.{asked_taken}
use Rattle.fuse_sim.proofs.Groups.{answers_for, worked, called_err, called_ok}
use Rattle.fuse_sim.proofs.Moves.{none_dies}
use Rattle.fuse_sim.proofs.Settled.{performs_later, left_short}
use Rattle.fuse_sim.proofs.running.work_group.Goals as goal

pub perform_group-requires : goal.perform_group-requires
perform_group-requires g c = λ κs lives.
    let gathers = c.requires.1.1.1.0 in
    let serves = subst (λ o. IfSome o (λ k. (g.K.Keeper.told k).service ≡ g.service))
    (sym c.as_mut.ensures.value ∙ ap option_copied_mut c.unwrap-inner.ensures) c.requires.1.1.0 in
    let short : length c.as_slice.result.now ≤ 16 = omega (arith, ap length c.as_slice.ensures.value, gathers.few) in
    let named = subst (λ (t : List (Request × Moment)). All HasId (entries_of t)) (sym c.as_slice.ensures.value) gathers.named in
    let performed = subst (λ (t : List (Request × Moment)). All (IsPerformed g.service) (entries_of t)) (sym c.as_slice.ensures.value) gathers.kept in
    (lives, (serves, (short, (c.requires.1.1.1.1.0, (named, performed)))))

pub answer_group-requires : goal.answer_group-requires
answer_group-requires g c =
    let gathers = c.requires.1.1.1.0 in
    let enough = answers_for g.service c.args.run.now c.args.group.now.taken.items c.in_ok-dones.dones.items
    (none_dies c.args.group.now.died c.args.run.now gathers.goes) gathers.entries (c.in_ok-dones.ensures.count ∙ ap length c.as_slice.ensures.value) in
    let short = left_short (ids_of c.args.pending.now.items) (ids_of c.perform_group.new.pending.items)
    (kept_of g.service (entries_of c.as_slice.result.now)) c.in_ok-dones.ensures.pending in
    let places : length c.perform_group.new.pending.items + length c.in_ok-dones.dones.items ≤ vec_capacity c.perform_group.new.pending = omega (
      arith,
      short,
      length-map c.args.pending.now.items (λ (x : Id). x.0),
      length-map c.perform_group.new.pending.items (λ (x : Id). x.0),
      c.in_ok-dones.ensures.count,
      ap length c.as_slice.ensures.value,
      c.perform_group.ensures.capacity,
      c.requires.1.1.1.1.1.1.1,
    ) in
    (gathers.fit, (search rules, (enough, (search rules, places))))

pub returns-clause-ok : goal.returns-clause-ok
returns-clause-ok g c =
    let k = g.K.Keeper in
    let gathers = c.requires.1.1.1.0 in
    let inner = c.unwrap-inner.result.now in
    let taken = c.as_slice.result.now in
    let es = entries_of taken in
    let kept = kept_of g.service es in
    let handed = handed_to kept (ids_of c.args.pending.now.items) in
    let dones = c.in_ok-dones.dones.items in
    let done = worked (serving g.service k.model) (c.kept_groups_grow.ensures g.service) (c.histories_grow.ensures g.service) c.seen_by_class.ensures (of_service g.service (k.told inner)) (of_service g.service (k.told c.perform_group.new.keeper)) c.args.run.now taken
    (ids_of c.args.pending.now.items) (ids_of c.perform_group.new.pending.items) (ids_of c.answer_group.new.pending.items) dones
    c.args.outcomes.now.items c.answer_group.new.outcomes.items
    (none_dies c.args.group.now.died c.args.run.now gathers.goes) (ap entries_of c.as_slice.ensures.value ∙ gathers.entries)
    (record {
      performed = performs_later (serving g.service k.model) (c.still_stands.ensures g.service) (of_service g.service (k.told inner)) (of_service g.service (k.told c.perform_group.new.keeper)) handed es dones c.in_ok-dones.ensures.ok;
      acts = c.in_ok-dones.ensures.acts;
      others = c.in_ok-dones.ensures.others;
    })
    (λ is so. c.in_ok-dones.ensures.firm is (inl so)) c.in_ok-dones.ensures.pending c.answer_group.ensures.outcomes c.answer_group.ensures.pending in
    rw (sym c.as_mut.ensures.value, c.unwrap-inner.ensures) done

pub returns-in_err-dones-clause-called : goal.returns-in_err-dones-clause-called
returns-in_err-dones-clause-called g c =
    let k = g.K.Keeper in
    let inner = c.unwrap-inner.result.now in
    let serves = subst (λ o. IfSome o (λ k. (g.K.Keeper.told k).service ≡ g.service))
    (sym c.as_mut.ensures.value ∙ ap option_copied_mut c.unwrap-inner.ensures) c.requires.1.1.0 in
    let sound = g.met.K.Keeper.sound c.perform_group.new.keeper in
    let p = err_from_is_err_and c.from_residual.result c.from_residual.ensures.1 in
    rw (p.1, p.2, sym c.as_mut.ensures.value, c.unwrap-inner.ensures) (called_err k.model g.service (k.told inner) (k.told c.perform_group.new.keeper)
    c.in_err-dones.field-0.0 (λ clean. sym serves ∙ sym c.perform_group.ensures.called.service ∙ sound.service (sound.clean_is_honest clean))
    c.in_err-dones.ensures.called)

pub returns-clause-asked : goal.returns-clause-asked
returns-clause-asked g c =
    let k = g.K.Keeper in
    let gathers = c.requires.1.1.1.0 in
    let inner = c.unwrap-inner.result.now in
    let asked = asked_taken c.seen_by_class.ensures g.service k.performed (Some inner) (Some c.perform_group.new.keeper) (ids_of c.args.pending.now.items)
    (entries_of c.as_slice.result.now) c.args.run.now (ap entries_of c.as_slice.ensures.value ∙ gathers.entries) c.perform_group.ensures.asked in
    rw (sym c.as_mut.ensures.value, c.unwrap-inner.ensures) asked

pub returns-in_err-dones-clause-asked : goal.returns-in_err-dones-clause-asked
returns-in_err-dones-clause-asked g c =
    let k = g.K.Keeper in
    let gathers = c.requires.1.1.1.0 in
    let inner = c.unwrap-inner.result.now in
    let asked = asked_taken c.seen_by_class.ensures g.service k.performed (Some inner) (Some c.perform_group.new.keeper) (ids_of c.args.pending.now.items)
    (entries_of c.as_slice.result.now) c.args.run.now (ap entries_of c.as_slice.ensures.value ∙ gathers.entries) c.perform_group.ensures.asked in
    rw (sym c.as_mut.ensures.value, c.unwrap-inner.ensures) asked

pub returns-clause-called : goal.returns-clause-called
returns-clause-called g c =
    let k = g.K.Keeper in
    rw (sym c.as_mut.ensures.value, c.unwrap-inner.ensures) (called_ok k.model g.service (k.told c.unwrap-inner.result.now) (k.told c.perform_group.new.keeper)
    c.in_ok-dones.dones _ c.in_ok-dones.ensures.called)

pub returns-clause-stays : goal.returns-clause-stays
returns-clause-stays g c =
    let serves = subst (λ o. IfSome o (λ k. (g.K.Keeper.told k).service ≡ g.service))
    (sym c.as_mut.ensures.value ∙ ap option_copied_mut c.unwrap-inner.ensures) c.requires.1.1.0 in
    c.perform_group.ensures.called.service ∙ serves

pub returns-in_err-dones-clause-stays : goal.returns-in_err-dones-clause-stays
returns-in_err-dones-clause-stays g c =
    let serves = subst (λ o. IfSome o (λ k. (g.K.Keeper.told k).service ≡ g.service))
    (sym c.as_mut.ensures.value ∙ ap option_copied_mut c.unwrap-inner.ensures) c.requires.1.1.0 in
    c.perform_group.ensures.called.service ∙ serves
