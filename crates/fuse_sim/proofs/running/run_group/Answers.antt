use Rattle.std.proofs.Common.{◌≡◌, false, ◌+◌, ◌-◌, ◌≤◌, refl, sym, ap, subst, ◌∙◌, length, take, drop, vec_capacity, arith}
use Rattle.std.proofs.lemmas.List.{length-take}
use Rattle.std.proofs.lemmas.Result.{err_from_is_err_and}
use Rattle.fuse_keeper.specs.Model.{serving}
use Rattle.fuse_keeper.specs.Group.{ids_of}
use Rattle.fuse_sim.specs.Driving.{told_in, told_for, performs_in}
use Rattle.fuse_sim.specs.Twice.{seen_of}
use Rattle.fuse_sim.specs.inner.Running.{GathersEvents}
use Rattle.fuse_sim.proofs.Cutting.{group_alone}
use Rattle.fuse_sim.proofs.Moves.{worked_over, group_moved, ids_left, few_taken, few_kept, few_left}
use Rattle.fuse_sim.proofs.Openings.{group_opens}
use Rattle.fuse_sim.proofs.Stopping.{where_ok, stops_here, stops_store, stops_restart, dies_at, begins_fit, within_rest, run_slice, group_read, group_stops}
use Rattle.fuse_sim.proofs.AskedGroups.{asked_run, stops_unasked, stops_performing, stops_emptied}
use Rattle.fuse_sim.proofs.running.run_group.Goals as goal

pub returns-in_default-clause-err : goal.returns-in_default-clause-err
returns-in_default-clause-err g c =
    let k = g.K.Keeper in
    stops_here (serving g.service k.model) (seen_of (told_for g.service k.told) k.became k.performed g.K.Restart.refuses) c.args.keeper.now c.args.events.now c.args.at _ refl refl
    (begins_fit c.args.events.now c.args.at c.requires.1.1.1.0) c.requires.1.1.1.1.1 g.met.K.Keeper.counted

pub returns-then-is_err-clause-err : goal.returns-then-is_err-clause-err
returns-then-is_err-clause-err g c =
    let k = g.K.Keeper in
    stops_here (serving g.service k.model) (seen_of (told_for g.service k.told) k.became k.performed g.K.Restart.refuses) c.args.keeper.now c.args.events.now c.args.at _ refl refl
    (begins_fit c.args.events.now c.args.at c.requires.1.1.1.0) c.requires.1.1.1.1.1 g.met.K.Keeper.counted

pub work_group-requires : goal.work_group-requires
work_group-requires g c = λ κs lives.
    let group = c.in-Ok.group in
    let events = c.args.events.now in
    let at = c.args.at in
    let count = c.len-count.result in
    let gathers = subst (λ x. GathersEvents (serving g.service g.K.Keeper.model) x group) (sym (run_slice events at count))
    (group_read (serving g.service g.K.Keeper.model) events at count group (omega (arith, c.len-count.ensures, group.classes.ok))
    c.in-Ok.ensures.gathers) in
    let few : length c.make_room.new.pending.items ≤ 16 = omega (arith, c.requires.1.1.1.1.0, ap length c.make_room.ensures.pending) in
    let made = where_ok c.make_room.result _ (sym c.if-is_err.ensures.value) c.make_room.ensures.room in
    let placed = where_ok c.make_room.result _ (sym c.if-is_err.ensures.value) c.make_room.ensures.places in
    let room : length c.make_room.new.outcomes.items + length (take (at + count - at) (drop at events)) ≤ vec_capacity c.make_room.new.outcomes =
    omega (arith, made, length-take (at + count - at) (drop at events)) in
    let places : length c.make_room.new.pending.items + length group.taken.items ≤ vec_capacity c.make_room.new.pending =
    omega (arith, placed, c.len.ensures, group.taken.ok) in
    (lives.0, (lives.1, (c.requires.1.1.0, (gathers, (few, (c.requires.1.1.1.1.1, (room, places)))))))

pub returns-in-Err-clause-err : goal.returns-in-Err-clause-err
returns-in-Err-clause-err g c =
    let k = g.K.Keeper in
    stops_store (serving g.service k.model) (seen_of (told_for g.service k.told) k.became k.performed g.K.Restart.refuses) c.args.keeper.now c.work_group.new.keeper c.args.events.now c.args.at c.in-Err.fault
    (begins_fit c.args.events.now c.args.at c.requires.1.1.1.0) c.in-Err.ensures.failed c.in-Err.ensures.called.err c.in-Err.ensures.called.honest
    c.in-Err.ensures.called.fault c.work_group.ensures.same c.in-Err.ensures.called.medium

pub returns-in_err-end_group-clause-err : goal.returns-in_err-end_group-clause-err
returns-in_err-end_group-clause-err g c =
    let k = g.K.Keeper in
    let events = c.args.events.now in
    let at = c.args.at in
    let group = c.in-Ok.group in
    let count = c.len-count.result in
    let gathers = group_read (serving g.service g.K.Keeper.model) events at count group (omega (arith, c.len-count.ensures, group.classes.ok))
    c.in-Ok.ensures.gathers in
    let none = c.in_err-end_group.ensures.err in
    let fault = c.in_err-end_group.ensures.fault in
    let few : count ≤ length (take (length events - at) (drop at events)) = omega (arith, c.in-Ok.ensures.within, c.len-count.ensures, group.classes.ok) in
    let last = dies_at events at count group.died (within_rest events at count c.requires.1.1.1.0 few) gathers.goes gathers.fit none.1 in
    let p = err_from_is_err_and c.from_residual.result c.from_residual.ensures.1 in
    rw (p.1, p.2) (stops_restart (serving g.service k.model) (seen_of (told_for g.service k.told) k.became k.performed g.K.Restart.refuses) c.args.keeper.now c.work_group.new.keeper c.end_group.new.keeper events at
    (at + count - 1) c.in_err-end_group.field-0.0 last.one
    none.0 c.in_err-end_group.ensures.refused fault.0 fault.1 last.there last.fit last.died last.earlier c.work_group.ensures.same last.calm)

pub returns-clause-ok : goal.returns-clause-ok
returns-clause-ok g c =
    let k = g.K.Keeper in
    let events = c.args.events.now in
    let at = c.args.at in
    let count = c.len-count.result in
    let group = c.in-Ok.group in
    let gathers = group_read (serving g.service g.K.Keeper.model) events at count group (omega (arith, c.len-count.ensures, group.classes.ok))
    c.in-Ok.ensures.gathers in
    let stops = group_stops g.service events at count group (omega (arith, c.len-count.ensures, group.classes.ok))
    c.in-Ok.ensures.stops in
    let worked = worked_over (serving g.service k.model) (told_in (told_for g.service k.told) c.args.keeper.now) (told_in (told_for g.service k.told) c.work_group.new.keeper) (take (at + count - at) (drop at events))
    (ids_of c.args.pending.now.items) (ids_of c.make_room.new.pending.items) (ids_of c.work_group.new.pending.items) c.args.outcomes.now.items
    c.make_room.new.outcomes.items c.work_group.new.outcomes.items (ap ids_of c.make_room.ensures.pending) c.make_room.ensures.outcomes
    c.in_default-work_group.ensures.ok in
    group_moved (serving g.service k.model) c.seen_by_class.ensures (told_in (told_for g.service k.told) c.args.keeper.now) (told_in (told_for g.service k.told) c.work_group.new.keeper) (told_in (told_for g.service k.told) c.end_group.new.keeper)
    group (take count (drop at events)) (take (at + count - at) (drop at events)) (drop (at + count) events)
    (ids_of c.args.pending.now.items) (ids_of c.work_group.new.pending.items) (ids_of c.end_group.new.pending.items) c.args.outcomes.now.items
    c.work_group.new.outcomes.items
    gathers (run_slice events at count) stops
    worked c.in_ok-end_group.ensures.same c.end_group.ensures.honest c.in_ok-end_group.ensures.firm (ids_left group.died c.end_group.new.pending.items c.work_group.new.pending.items
    c.in_ok-end_group.ensures.pending)

pub returns-clause-opens : goal.returns-clause-opens
returns-clause-opens g c =
    let k = g.K.Keeper in
    let events = c.args.events.now in
    let at = c.args.at in
    let count = c.len-count.result in
    let group = c.in-Ok.group in
    let gathers = group_read (serving g.service g.K.Keeper.model) events at count group (omega (arith, c.len-count.ensures, group.classes.ok))
    c.in-Ok.ensures.gathers in
    let worked = worked_over (serving g.service k.model) (told_in (told_for g.service k.told) c.args.keeper.now) (told_in (told_for g.service k.told) c.work_group.new.keeper) (take (at + count - at) (drop at events))
    (ids_of c.args.pending.now.items) (ids_of c.make_room.new.pending.items) (ids_of c.work_group.new.pending.items) c.args.outcomes.now.items
    c.make_room.new.outcomes.items c.work_group.new.outcomes.items (ap ids_of c.make_room.ensures.pending) c.make_room.ensures.outcomes
    c.in_default-work_group.ensures.ok in
    group_opens (serving g.service k.model) (c.still_stands.ensures g.service) (told_for g.service k.told) k.became c.args.keeper.now c.work_group.new.keeper c.end_group.new.keeper
    group (take count (drop at events)) (take (at + count - at) (drop at events))
    (ids_of c.args.pending.now.items) (ids_of c.work_group.new.pending.items) c.args.outcomes.now.items c.work_group.new.outcomes.items
    gathers (run_slice events at count) worked c.work_group.ensures.same c.in_ok-end_group.ensures.opened c.in_ok-end_group.ensures.same
    c.end_group.ensures.honest c.work_group.ensures.called.honest (λ is. c.in_ok-end_group.ensures.medium (c.work_group.ensures.called.medium is))

pub returns-clause-few : goal.returns-clause-few
returns-clause-few g c =
    let events = c.args.events.now in
    let at = c.args.at in
    let count = c.len-count.result in
    let group = c.in-Ok.group in
    let gathers = group_read (serving g.service g.K.Keeper.model) events at count group (omega (arith, c.len-count.ensures, group.classes.ok))
    c.in-Ok.ensures.gathers in
    few_left g.service group.died (take (at + count - at) (drop at events)) c.make_room.new.pending.items c.work_group.new.pending.items c.end_group.new.pending.items 16
    c.in_ok-end_group.ensures.pending c.in_default-work_group.ensures.ok.handed
    (omega (arith, c.requires.1.1.1.1.0, ap length c.make_room.ensures.pending))
    (few_kept g.service (take (at + count - at) (drop at events)) group.taken.items 16
    (gathers.entries ∙ ap (performs_in g.service) (sym (run_slice events at count))) gathers.few)

pub returns-in_default-clause-err_asked : goal.returns-in_default-clause-err_asked
returns-in_default-clause-err_asked g c =
    stops_unasked (serving g.service g.K.Keeper.model) (seen_of (told_for g.service g.K.Keeper.told) g.K.Keeper.became g.K.Keeper.performed g.K.Restart.refuses) g.met.K.Keeper.log (λ x. (g.K.Keeper.told x).has_failed ≡ false) c.args.keeper.now
    (ids_of c.args.pending.now.items) (drop c.args.at c.args.events.now) _ c.requires.1.1.1.1.1 refl

pub returns-then-is_err-clause-err_asked : goal.returns-then-is_err-clause-err_asked
returns-then-is_err-clause-err_asked g c =
    stops_unasked (serving g.service g.K.Keeper.model) (seen_of (told_for g.service g.K.Keeper.told) g.K.Keeper.became g.K.Keeper.performed g.K.Restart.refuses) g.met.K.Keeper.log (λ x. (g.K.Keeper.told x).has_failed ≡ false) c.args.keeper.now
    (ids_of c.args.pending.now.items) (drop c.args.at c.args.events.now) _ c.requires.1.1.1.1.1 refl

pub returns-in-Err-clause-err_asked : goal.returns-in-Err-clause-err_asked
returns-in-Err-clause-err_asked g c =
    let V = g.service in
    let events = c.args.events.now in
    let at = c.args.at in
    let count = c.len-count.result in
    let group = c.in-Ok.group in
    let gathers = group_read (serving g.service g.K.Keeper.model) events at count group
    (omega (arith, c.len-count.ensures, group.classes.ok)) c.in-Ok.ensures.gathers in
    stops_performing (serving g.service g.K.Keeper.model) (seen_of (told_for g.service g.K.Keeper.told) g.K.Keeper.became g.K.Keeper.performed g.K.Restart.refuses) c.args.keeper.now c.work_group.new.keeper (ids_of c.args.pending.now.items)
    (ids_of c.make_room.new.pending.items) (drop at events) (take (at + count - at) (drop at events)) count group _ gathers c.in-Err.ensures.some
    (run_slice events at count) (ap ids_of c.make_room.ensures.pending) c.work_group.ensures.asked refl

pub returns-in_err-end_group-clause-err_asked : goal.returns-in_err-end_group-clause-err_asked
returns-in_err-end_group-clause-err_asked g c =
    let p = err_from_is_err_and c.from_residual.result c.from_residual.ensures.1 in
    rw (p.1, p.2) (stops_emptied (serving g.service g.K.Keeper.model) (seen_of (told_for g.service g.K.Keeper.told) g.K.Keeper.became g.K.Keeper.performed g.K.Restart.refuses) c.args.keeper.now c.end_group.new.keeper (ids_of c.args.pending.now.items)
    (drop c.args.at c.args.events.now) c.in_err-end_group.field-0.0 c.in_err-end_group.ensures.err.0)

pub returns-clause-one : goal.returns-clause-one
returns-clause-one g c =
    let V = g.service in
    let events = c.args.events.now in
    let at = c.args.at in
    let count = c.len-count.result in
    let group = c.in-Ok.group in
    let gathers = group_read (serving g.service g.K.Keeper.model) events at count group
    (omega (arith, c.len-count.ensures, group.classes.ok)) c.in-Ok.ensures.gathers in
    group_alone V group.died (take count (drop at events)) gathers.goes (few_taken V (take count (drop at events)) group.taken.items 16 gathers.entries gathers.few)

pub returns-clause-asked : goal.returns-clause-asked
returns-clause-asked g c =
    let events = c.args.events.now in
    let at = c.args.at in
    let count = c.len-count.result in
    asked_run g.service g.K.Keeper.performed g.met.K.Keeper.log c.args.keeper.now c.work_group.new.keeper c.end_group.new.keeper
    (ids_of c.args.pending.now.items) (ids_of c.make_room.new.pending.items) (take (at + count - at) (drop at events)) (take count (drop at events))
    (run_slice events at count) (ap ids_of c.make_room.ensures.pending) c.work_group.ensures.asked c.in_ok-end_group.ensures.unasked
