use Rattle.std.proofs.Common.{[], subst, sym}
use Rattle.fuse_sim.specs.Driving.{told_in}
use Rattle.fuse_commands.specs.Simulating.{driven}
use Rattle.fuse_commands.proofs.Simulations.{IsUnfit, never_unfit, went, counts_are, asked_all, opened_all, all_left, keeps_by, fault_left, reused_prefix, drive_ended, counts_ended, asked_for, asked_before_for, refused_again, never_emptied}
use Rattle.fuse_commands.proofs.simulate.run_events.Goals as goal

pub returns-in-Ok-counts-clause-counts : goal.returns-in-Ok-counts-clause-counts
returns-in-Ok-counts-clause-counts g c =
    counts_are g.K.Keeper.told c.args.keeper.now c.drive.new.keeper c.in-Some.keeper c.counts.new.self c.args.events.now _ c.in-Some.is
    c.in-Ok-counts.ensures.looked c.in-Ok.ensures.records c.in-Ok-counts.ensures.nodes c.in-Ok-counts.ensures.handles

pub returns-in-Ok-counts-clause-ok : goal.returns-in-Ok-counts-clause-ok
returns-in-Ok-counts-clause-ok g c = λ honest s so again.
    went g.K.Keeper.told c.args.keeper.now c.drive.new.keeper c.in-Some.keeper c.counts.new.self s c.args.events.now _ c.in-Some.is c.in-Ok-counts.ensures.looked
    (g.met.K.Keeper.sound c.counts.new.self) honest (λ good. c.in-Ok.ensures.outcomes good s [] [] so again)
    (λ good. c.in-Ok.ensures.tree_stands good s [] [] so again) c.in-Ok.ensures.firm c.in-Ok-counts.ensures.nodes c.in-Ok-counts.ensures.handles

pub returns-in-Ok-counts-clause-begin : goal.returns-in-Ok-counts-clause-begin
returns-in-Ok-counts-clause-begin g c = λ honest earlier later parts s so none.
    c.in-Ok.ensures.outcomes_before
    (subst (λ o. (told_in g.K.Keeper.told o).is_honest) (sym c.in-Some.is) (c.counts.ensures.looked.called.honest honest)) earlier later parts s [] [] so none

pub returns-in-Ok-counts-clause-asked : goal.returns-in-Ok-counts-clause-asked
returns-in-Ok-counts-clause-asked g c =
    asked_all g.K.Keeper.performed c.args.keeper.now c.drive.new.keeper c.in-Some.keeper c.counts.new.self _ g.met.K.Keeper.log c.in-Some.is
    (asked_for g.K.Keeper.told g.K.Keeper.performed c.args.keeper.now c.drive.new.keeper c.args.events.now c.requires.serves c.in-Ok.ensures.asked) c.counts.ensures.unasked

pub returns-in-Ok-counts-clause-kept : goal.returns-in-Ok-counts-clause-kept
returns-in-Ok-counts-clause-kept g c =
    let k = g.K.Keeper in
    all_left (driven k.told k.became k.performed g.K.Restart.refuses) c.args.keeper.now c.drive.new.keeper c.in-Some.keeper c.counts.new.self
    c.args.events.now c.in-Some.is (g.met.K.Keeper.sound c.counts.new.self) c.counts.ensures.looked.called.honest
    (keeps_by (k.told c.in-Some.keeper) (k.told c.counts.new.self) c.counts.result (g.met.K.Keeper.sound c.counts.new.self) c.counts.ensures.looked)
    c.in-Ok.ensures.tree_stands c.in-Ok.ensures.records
    (asked_all k.performed c.args.keeper.now c.drive.new.keeper c.in-Some.keeper c.counts.new.self _ g.met.K.Keeper.log c.in-Some.is
    (asked_for g.K.Keeper.told g.K.Keeper.performed c.args.keeper.now c.drive.new.keeper c.args.events.now c.requires.serves c.in-Ok.ensures.asked) c.counts.ensures.unasked)

pub returns-in-Err-clause-kept : goal.returns-in-Err-clause-kept
returns-in-Err-clause-kept g c =
    let k = g.K.Keeper in
    all_left (driven k.told k.became k.performed g.K.Restart.refuses) c.args.keeper.now c.drive.new.keeper c.in-Some.keeper c.counts.new.self
    c.args.events.now c.in-Some.is (g.met.K.Keeper.sound c.counts.new.self) c.counts.ensures.looked.called.honest
    (keeps_by (k.told c.in-Some.keeper) (k.told c.counts.new.self) c.counts.result (g.met.K.Keeper.sound c.counts.new.self) c.counts.ensures.looked)
    c.in-Ok.ensures.tree_stands c.in-Ok.ensures.records
    (asked_all k.performed c.args.keeper.now c.drive.new.keeper c.in-Some.keeper c.counts.new.self _ g.met.K.Keeper.log c.in-Some.is
    (asked_for g.K.Keeper.told g.K.Keeper.performed c.args.keeper.now c.drive.new.keeper c.args.events.now c.requires.serves c.in-Ok.ensures.asked) c.counts.ensures.unasked)

pub returns-in-Err-Store-clause-kept : goal.returns-in-Err-Store-clause-kept
returns-in-Err-Store-clause-kept g c =
    let k = g.K.Keeper in
    fault_left (driven k.told k.became k.performed g.K.Restart.refuses) c.args.keeper.now c.drive.new.keeper c.args.events.now c.in-Err-Store.field-0
    g.met.K.Keeper.sound c.in-Err-Store.ensures.after_fault c.in-Err-Store.ensures.records_at_fault
    (asked_before_for g.K.Keeper.told g.K.Keeper.performed c.args.keeper.now c.drive.new.keeper c.args.events.now c.in-Err-Store.field-0 c.requires.serves
    c.in-Err-Store.ensures.asked_before)

pub returns-in-Err-Memory-clause-kept : goal.returns-in-Err-Memory-clause-kept
returns-in-Err-Memory-clause-kept g c =
    let k = g.K.Keeper in
    fault_left (driven k.told k.became k.performed g.K.Restart.refuses) c.args.keeper.now c.drive.new.keeper c.args.events.now c.in-Err-Memory.field-0
    g.met.K.Keeper.sound c.in-Err-Memory.ensures.after_fault c.in-Err-Memory.ensures.records_at_fault
    (asked_before_for g.K.Keeper.told g.K.Keeper.performed c.args.keeper.now c.drive.new.keeper c.args.events.now c.in-Err-Memory.field-0 c.requires.serves
    c.in-Err-Memory.ensures.asked_before)

pub unreachable-requires : goal.unreachable-requires
unreachable-requires g c =
    let e = c.in-Err-NotAMessage in
    never_unfit e.field-0 c.args.events.now c.requires.fit e.ensures.fault_causes (subst IsUnfit (sym e.field-0-is) tt)

pub returns-in-Err-Store-clause-store : goal.returns-in-Err-Store-clause-store
returns-in-Err-Store-clause-store g c = λ is s so none.
    let k = g.K.Keeper in
    drive_ended (driven k.told k.became k.performed g.K.Restart.refuses) c.args.keeper.now c.drive.new.keeper c.args.events.now _ c.in-Err-Store.field-0
    c.in-Err-Store.fault c.of.result c.in-Err-Store.field-0-is c.in-Err-Store.ensures.emptied
    (λ store good. c.in-Err-Store.ensures.store store good s [] [] so (reused_prefix k.model.service [] _ c.args.events.now none)) c.of.ensures

pub returns-in-Err-clause-store : goal.returns-in-Err-clause-store
returns-in-Err-clause-store g c = λ is s so none clean.
    let k = g.K.Keeper in
    counts_ended (driven k.told k.became k.performed g.K.Restart.refuses) c.args.keeper.now c.drive.new.keeper c.in-Some.keeper c.counts.new.self
    c.args.events.now s _ _ c.in-Err.fault c.of-in-Err.result
    c.in-Some.is (c.counts.ensures.looked.called.honest ((g.met.K.Keeper.sound c.counts.new.self).clean_is_honest clean))
    (λ good. c.in-Ok.ensures.tree_stands good s [] [] so none)
    (λ stands. c.in-Err.ensures.looked.called.fault clean s _ _ stands) c.in-Ok.ensures.opened c.counts.ensures.same c.of-in-Err.ensures

pub unreachable-requires-in-Err-ZeroUnique : goal.unreachable-requires-in-Err-ZeroUnique
unreachable-requires-in-Err-ZeroUnique g c =
    let e = c.in-Err-ZeroUnique in
    never_unfit e.field-0 c.args.events.now c.requires.fit e.ensures.fault_causes (subst IsUnfit (sym e.field-0-is) tt)

pub returns-in-Ok-counts-clause-opened : goal.returns-in-Ok-counts-clause-opened
returns-in-Ok-counts-clause-opened g c =
    opened_all g.K.Keeper.told g.K.Keeper.became c.args.keeper.now c.drive.new.keeper c.in-Some.keeper c.counts.new.self c.args.events.now g.met.K.Keeper.counted
    c.in-Some.is c.counts.ensures.looked.called.honest c.counts.ensures.same c.in-Ok.ensures.opened

pub returns-in-Err-Store-clause-emptied : goal.returns-in-Err-Store-clause-emptied
returns-in-Err-Store-clause-emptied g c =
    let k = g.K.Keeper in
    refused_again (driven k.told k.became k.performed g.K.Restart.refuses) c.args.keeper.now c.drive.new.keeper c.args.events.now _ c.in-Err-Store.field-0
    c.in-Err-Store.fault c.of.result c.in-Err-Store.field-0-is c.in-Err-Store.ensures.emptied c.of.ensures

pub returns-in-Err-Memory-clause-emptied : goal.returns-in-Err-Memory-clause-emptied
returns-in-Err-Memory-clause-emptied g c =
    let e = c.in-Err-Memory in
    never_emptied g.K.Keeper.became _ c.args.keeper.now c.drive.new.keeper c.args.events.now _ e.field-0 e.field-0-is e.ensures.emptied
