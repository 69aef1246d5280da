use Rattle.std.proofs.Common.{◌++◌, map, ap, sym, subst, refl, ◌∙◌}
use Rattle.std.proofs.lemmas.List.{map-append}
use Rattle.std.proofs.lemmas.Result.{err_from_is_err_and}
use Rattle.fuse_sim.specs.Driving.{told_in, bytes_given, committed, outcomes_of, performed_in, settled_by}
use Rattle.fuse_sim.specs.HandedOn.{performances}
use Rattle.fuse_sim.specs.Twice.{seen_of}
use Rattle.fuse_sim.proofs.Driven.{outcomes-append, reused-parts}
use Rattle.fuse_sim.proofs.Openings.{stands_twice, opened_twice, stood_twice}
use Rattle.fuse_sim.proofs.AskedGroups.{performed_then}
use Rattle.fuse_sim.proofs.TwoLists.{stopped_first, stopped_second, serves_mid}
use Rattle.fuse_sim.proofs.InARow.{answers_in_a_row, records_in_a_row, kept_in_a_row}
use Rattle.fuse_sim.proofs.driving.drive_twice.Goals as goal

pub returns-clause-tree_stands : goal.returns-clause-tree_stands
returns-clause-tree_stands g c = λ is.
    let k = g.K.Keeper in
    stands_twice k.model k.told c.args.keeper.now c.drive.new.keeper c.drive-2.new.keeper c.args.events.now c.args.more.now
    (c.in_ok-first.ensures.tree_stands (c.drive-2.ensures.honest is)) (c.in_ok-second.ensures.tree_stands is)

pub returns-clause-outcomes : goal.returns-clause-outcomes
returns-clause-outcomes g c = λ is start h settled so none.
    let M = g.K.Keeper.model in
    let V = M.service in
    let xs = c.args.events.now in
    let ys = c.args.more.now in
    let was = c.drive-2.ensures.honest is in
    let parts = reused-parts V settled xs ys none in
    let stands = c.in_ok-first.ensures.tree_stands was start h settled so parts.0 in
    map-append bytes_given c.in_ok-first.first.items c.in_ok-second.second.items
    ∙ ap (λ os. os ++ map bytes_given c.in_ok-second.second.items) (c.in_ok-first.ensures.outcomes was start h settled so parts.0)
    ∙ ap (λ os. outcomes_of M start h xs ++ os) (c.in_ok-second.ensures.outcomes is start (committed V h xs) (settled_by V settled xs) stands
    parts.1)
    ∙ sym (outcomes-append M (c.histories_grow.ensures g.K.Keeper.model.service) start h xs ys)

pub returns-clause-opened : goal.returns-clause-opened
returns-clause-opened g c =
    let k = g.K.Keeper in
    opened_twice k.model k.told k.became g.met.K.Keeper.counted c.args.keeper.now c.drive.new.keeper c.drive-2.new.keeper c.args.events.now c.args.more.now
    c.drive-2.ensures.honest c.in_ok-first.ensures.tree_stands c.in_ok-first.ensures.opened c.in_ok-second.ensures.opened

pub returns-in_err-first-clause-stopped : goal.returns-in_err-first-clause-stopped
returns-in_err-first-clause-stopped g c =
    let k = g.K.Keeper in
    let p = err_from_is_err_and c.from_residual.result c.from_residual.ensures.1 in
    let e = c.in_err-first.ensures in
    rw (p.1, p.2) (stopped_first k.model (seen_of k.told k.became k.performed g.K.Restart.refuses)
    c.args.keeper.now c.drive.new.keeper c.args.events.now c.args.more.now c.in_err-first.field-0.0 (record {
      named = e.fault_causes;
      stands = e.after_fault;
      records = e.records_at_fault;
      opened = e.opened_before;
      stood = e.stood_at_fault;
      asked = e.asked_before;
      store = e.store;
      emptied = e.emptied;
      firm = e.firm;
    }))

pub returns-in_err-second-clause-stopped : goal.returns-in_err-second-clause-stopped
returns-in_err-second-clause-stopped g c =
    let k = g.K.Keeper in
    let p = err_from_is_err_and c.from_residual-in_err-second.result c.from_residual-in_err-second.ensures.1 in
    let first = c.in_ok-first.ensures in
    let e = c.in_err-second.ensures in
    rw (p.1, p.2) (stopped_second k.model (seen_of k.told k.became k.performed g.K.Restart.refuses)
    g.met.K.Keeper.counted g.met.K.Keeper.log c.args.keeper.now c.drive.new.keeper c.drive-2.new.keeper c.args.events.now c.args.more.now
    c.in_err-second.field-0.0 (λ x. (g.met.K.Keeper.sound x).clean_is_honest) c.drive-2.ensures.honest (record {
      fit = first.fault_causes;
      stands = first.tree_stands;
      records = first.records;
      opened = first.opened;
      stood = first.stood_before;
      asked = first.asked;
      stays = first.stays;
      firm = first.firm;
    }) (record {
      named = e.fault_causes;
      stands = e.after_fault;
      records = e.records_at_fault;
      opened = e.opened_before;
      stood = e.stood_at_fault;
      asked = e.asked_before;
      store = e.store;
      emptied = e.emptied;
      firm = e.firm;
    }))

pub returns-clause-stood_before : goal.returns-clause-stood_before
returns-clause-stood_before g c =
    let k = g.K.Keeper in
    stood_twice k.model k.told k.became g.met.K.Keeper.counted c.args.keeper.now c.drive.new.keeper c.drive-2.new.keeper c.args.events.now c.args.more.now
    c.drive-2.ensures.honest c.in_ok-first.ensures.tree_stands c.in_ok-first.ensures.opened.often c.in_ok-second.ensures.opened.often
    c.in_ok-first.ensures.stood_before c.in_ok-second.ensures.stood_before

pub returns-clause-firm : goal.returns-clause-firm
returns-clause-firm g c = λ is so. c.in_ok-second.ensures.firm is (c.in_ok-first.ensures.firm (c.drive-2.ensures.honest is) so)

pub returns-clause-outcomes_before : goal.returns-clause-outcomes_before
returns-clause-outcomes_before g c =
    let k = g.K.Keeper in
    let first = c.in_ok-first.ensures in
    answers_in_a_row k.model (c.histories_grow.ensures g.K.Keeper.model.service) k.told c.args.keeper.now c.drive.new.keeper c.drive-2.new.keeper c.args.events.now c.args.more.now
    c.in_ok-first.first.items c.in_ok-second.second.items c.drive-2.ensures.honest first.tree_stands first.outcomes first.outcomes_before
    c.in_ok-second.ensures.outcomes_before

pub returns-clause-records : goal.returns-clause-records
returns-clause-records g c =
    let k = g.K.Keeper in
    records_in_a_row k.model k.told c.args.keeper.now c.drive.new.keeper c.drive-2.new.keeper c.args.events.now c.args.more.now c.drive-2.ensures.honest
    c.in_ok-first.ensures.records c.in_ok-second.ensures.records

pub returns-clause-kept : goal.returns-clause-kept
returns-clause-kept g c =
    let k = g.K.Keeper in
    kept_in_a_row k.model k.told c.args.keeper.now c.drive.new.keeper c.drive-2.new.keeper c.args.events.now c.args.more.now c.drive-2.ensures.honest
    c.in_ok-first.ensures.tree_stands c.in_ok-first.ensures.kept c.in_ok-second.ensures.kept

pub returns-clause-asked : goal.returns-clause-asked
returns-clause-asked g c =
    let k = g.K.Keeper in
    let V = (told_in k.told c.args.keeper.now).service in
    let xs = c.args.events.now in
    let ys = c.args.more.now in
    let first = c.in_ok-first.ensures in
    let second = subst (λ W. performed_in k.performed c.drive.new.keeper c.drive-2.new.keeper (performances W ys))
    (serves_mid k.told k.performed V c.args.keeper.now c.drive.new.keeper (performances V xs) first.asked first.stays) c.in_ok-second.ensures.asked in
    performed_then k.performed g.met.K.Keeper.log c.args.keeper.now c.drive.new.keeper c.drive-2.new.keeper (performances V xs) (performances V ys)
    (performances V xs ++ performances V ys) first.asked second refl
