use Rattle.std.proofs.Common.{◌≡◌, false, ◌+◌, ◌++◌, ◌∷◌, [], List, Option, None, sym, ap, subst, refl, ◌∙◌, drop, IsSomeAnd}
use Rattle.std.proofs.lemmas.Option.{slice_get_read}
use Rattle.std.proofs.lemmas.Result.{err_from_is_err_and}
use Rattle.fuse_keeper.specs.Model.{serving}
use Rattle.fuse_keeper.specs.Group.{ids_of}
use Rattle.fuse_sim.specs.declared.event.Outcome.{Outcome}
use Rattle.fuse_sim.specs.Driving.{told_in, told_for, IsFit}
use Rattle.fuse_sim.specs.Twice.{seen_of}
use Rattle.fuse_sim.proofs.Moves.{lost_moved}
use Rattle.fuse_sim.proofs.Openings.{became_itself, lost_opens}
use Rattle.fuse_sim.proofs.Stopping.{stops_here, stops_restart, lost_dies}
use Rattle.fuse_sim.proofs.AskedGroups.{lost_is_one, lost_asked, stops_unasked, stops_emptied}
use Rattle.fuse_sim.proofs.running.run_next.Goals as goal

pub returns-then-is_err-clause-err : goal.returns-then-is_err-clause-err
returns-then-is_err-clause-err g c =
    let k = g.K.Keeper in
    let events = c.args.events.now in
    let fit = subst (λ o. IsSomeAnd o IsFit) (sym (slice_get_read events _ c.args.at c.index-events-at.result refl c.requires.1.1.1.0 c.index-events-at.is))
    c.in_ok-test_event.ensures.fit in
    stops_here (serving g.service g.K.Keeper.model) (seen_of (told_for g.service k.told) k.became k.performed g.K.Restart.refuses) c.args.keeper.now events c.args.at _ refl refl fit c.requires.1.1.1.1.1
    g.met.K.Keeper.counted

pub returns-in_err-end_group-clause-err : goal.returns-in_err-end_group-clause-err
returns-in_err-end_group-clause-err g c =
    let k = g.K.Keeper in
    let events = c.args.events.now in
    let at = c.args.at in
    let e = c.index-events-at.result in
    let fault = c.in_err-end_group.ensures.fault in
    let p = err_from_is_err_and c.from_residual-in_err-end_group.result c.from_residual-in_err-end_group.ensures.1 in
    rw (p.1, p.2) (stops_restart (serving g.service g.K.Keeper.model) (seen_of (told_for g.service k.told) k.became k.performed g.K.Restart.refuses) c.args.keeper.now c.args.keeper.now c.end_group.new.keeper events at at
    c.in_err-end_group.field-0.0 e
    c.in_err-end_group.ensures.err.0 c.in_err-end_group.ensures.refused fault.0 fault.1 (slice_get_read events _ at e refl c.requires.1.1.1.0 c.index-events-at.is)
    c.in_ok-test_event.ensures.fit
    (lost_dies e.fate (sym c.is_before_commit.ensures ∙ c.if-not-is_before_commit.false)) (λ each. each)
    (became_itself k.became g.met.K.Keeper.counted (λ x. (k.told x).has_failed ≡ false) c.args.keeper.now c.requires.1.1.1.1.1) refl)

pub returns-clause-ok : goal.returns-clause-ok
returns-clause-ok g c =
    let k = g.K.Keeper in
    let events = c.args.events.now in
    let at = c.args.at in
    lost_moved (serving g.service g.K.Keeper.model) (told_in (told_for g.service k.told) c.args.keeper.now) (told_in (told_for g.service k.told) c.end_group.new.keeper) (ids_of c.args.pending.now.items) events
    (drop (at + 1) events) at
    c.index-events-at.result
    (ids_of c.end_group.new.pending.items) c.args.outcomes.now.items c.push_reserved.new.self.items
    c.requires.1.1.1.0 c.index-events-at.is c.in_ok-test_event.ensures.fit (sym c.is_before_commit.ensures ∙ c.if-not-is_before_commit.false)
    (c.push_reserved.ensures.items ∙ ap (λ (x : List (Option Outcome)). x ++ None ∷ []) c.make_room.ensures.outcomes)
    (ap ids_of {y = []} c.in_ok-end_group.ensures.pending) c.in_ok-end_group.ensures.same c.in_ok-end_group.ensures.firm

pub returns-clause-opens : goal.returns-clause-opens
returns-clause-opens g c =
    let k = g.K.Keeper in
    lost_opens (serving g.service g.K.Keeper.model) (c.still_stands.ensures g.service) (told_for g.service k.told) k.became g.met.K.Keeper.counted c.args.keeper.now c.end_group.new.keeper c.args.events.now c.args.at
    c.index-events-at.result (ids_of c.args.pending.now.items)
    c.requires.1.1.1.0 c.index-events-at.is (sym c.is_before_commit.ensures ∙ c.if-not-is_before_commit.false) c.in_ok-end_group.ensures.opened
    c.in_ok-end_group.ensures.same c.end_group.ensures.honest c.in_ok-end_group.ensures.medium

pub returns-then-is_err-clause-err_asked : goal.returns-then-is_err-clause-err_asked
returns-then-is_err-clause-err_asked g c =
    stops_unasked (serving g.service g.K.Keeper.model) (seen_of (told_for g.service g.K.Keeper.told) g.K.Keeper.became g.K.Keeper.performed g.K.Restart.refuses) g.met.K.Keeper.log (λ x. (g.K.Keeper.told x).has_failed ≡ false) c.args.keeper.now
    (ids_of c.args.pending.now.items) (drop c.args.at c.args.events.now) _ c.requires.1.1.1.1.1 refl

pub returns-in_err-test_event-clause-err_asked : goal.returns-in_err-test_event-clause-err_asked
returns-in_err-test_event-clause-err_asked g c =
    let p = err_from_is_err_and c.from_residual.result c.from_residual.ensures.1 in
    rw (p.1, p.2) (stops_unasked (serving g.service g.K.Keeper.model) (seen_of (told_for g.service g.K.Keeper.told) g.K.Keeper.became g.K.Keeper.performed g.K.Restart.refuses) g.met.K.Keeper.log (λ x. (g.K.Keeper.told x).has_failed ≡ false)
    c.args.keeper.now (ids_of c.args.pending.now.items) (drop c.args.at c.args.events.now) c.in_err-test_event.field-0.0 c.requires.1.1.1.1.1
    c.in_err-test_event.ensures.store)

pub returns-in_err-end_group-clause-err_asked : goal.returns-in_err-end_group-clause-err_asked
returns-in_err-end_group-clause-err_asked g c =
    let p = err_from_is_err_and c.from_residual-in_err-end_group.result c.from_residual-in_err-end_group.ensures.1 in
    rw (p.1, p.2) (stops_emptied (serving g.service g.K.Keeper.model) (seen_of (told_for g.service g.K.Keeper.told) g.K.Keeper.became g.K.Keeper.performed g.K.Restart.refuses) c.args.keeper.now c.end_group.new.keeper (ids_of c.args.pending.now.items)
    (drop c.args.at c.args.events.now) c.in_err-end_group.field-0.0 c.in_err-end_group.ensures.err.0)

pub returns-clause-one : goal.returns-clause-one
returns-clause-one g c =
    lost_is_one g.service c.args.events.now c.args.at c.index-events-at.result c.requires.1.1.1.0 c.index-events-at.is
    (sym c.is_before_commit.ensures ∙ c.if-not-is_before_commit.false)

pub returns-clause-asked : goal.returns-clause-asked
returns-clause-asked g c =
    lost_asked g.service g.K.Keeper.performed c.args.keeper.now c.end_group.new.keeper c.args.events.now c.args.at c.index-events-at.result
    (ids_of c.args.pending.now.items) c.requires.1.1.1.0 c.index-events-at.is (sym c.is_before_commit.ensures ∙ c.if-not-is_before_commit.false)
    c.in_ok-end_group.ensures.unasked
