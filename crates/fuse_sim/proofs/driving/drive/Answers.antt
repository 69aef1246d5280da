use Rattle.std.proofs.Common.{◌≡◌, ℕ, List, true, subst}
use Rattle.fuse_keeper.specs.History.{History}
use Rattle.fuse_keeper.specs.KeeperState.{IsFirm}
use Rattle.fuse_sim.specs.Driving.{told_in, told_for, StandsIn, committed, settled_by, NoneReused, before, is_store, LeftBy, StoodBefore, AnsweredBy}
use Rattle.fuse_sim.specs.AfterEvents.{StandsAfter, AnswersAre, FirstAnswersAre, DeletesHanded, KeepsUnhanded}
use Rattle.fuse_sim.specs.HandedOn.{performances}
use Rattle.fuse_sim.proofs.Endings.{clean_too}
use Rattle.fuse_sim.proofs.Served.{serves_itself, gives_in, left_by, honest_of, medium_of, opened_of}
use Rattle.fuse_sim.proofs.driving.drive.Goals as goal

pub run_all-requires : goal.run_all-requires
run_all-requires g c = λ κs lives. (lives.0, (lives.1, (serves_itself g.K.Keeper.told c.args.keeper.now, c.requires.present)))

pub returns-in-Ok-clause-tree_stands : goal.returns-in-Ok-clause-tree_stands
returns-in-Ok-clause-tree_stands g c = λ honest.
    let told = g.K.Keeper.told in
    let old = c.args.keeper.now in
    let new = c.run_all.new.keeper in
    let events = c.args.events.now in
    let V = (told_in told old).service in
    let same = gives_in g.K.Keeper.model V told new c.run_all.ensures.stays g.met.K.Keeper.sound in
    subst (λ W. StandsAfter (told_for W told) old new events) (same honest) c.in-Ok.ensures.tree_stands honest

pub returns-in-Ok-clause-outcomes : goal.returns-in-Ok-clause-outcomes
returns-in-Ok-clause-outcomes g c = λ honest.
    let told = g.K.Keeper.told in
    let old = c.args.keeper.now in
    let new = c.run_all.new.keeper in
    let events = c.args.events.now in
    let V = (told_in told old).service in
    let same = gives_in g.K.Keeper.model V told new c.run_all.ensures.stays g.met.K.Keeper.sound in
    subst (λ W. AnswersAre (told_for W told) old new events c.in-Ok.outcomes.items) (same honest) c.in-Ok.ensures.outcomes honest

pub returns-in-Ok-clause-outcomes_before : goal.returns-in-Ok-clause-outcomes_before
returns-in-Ok-clause-outcomes_before g c = λ honest.
    let told = g.K.Keeper.told in
    let old = c.args.keeper.now in
    let new = c.run_all.new.keeper in
    let events = c.args.events.now in
    let V = (told_in told old).service in
    let same = gives_in g.K.Keeper.model V told new c.run_all.ensures.stays g.met.K.Keeper.sound in
    subst (λ W. FirstAnswersAre (told_for W told) old new events c.in-Ok.outcomes.items) (same honest) c.in-Ok.ensures.outcomes_before honest

pub returns-in-Ok-clause-stood_before : goal.returns-in-Ok-clause-stood_before
returns-in-Ok-clause-stood_before g c = λ honest.
    let told = g.K.Keeper.told in
    let old = c.args.keeper.now in
    let new = c.run_all.new.keeper in
    let events = c.args.events.now in
    let V = (told_in told old).service in
    let same = gives_in g.K.Keeper.model V told new c.run_all.ensures.stays g.met.K.Keeper.sound in
    subst (λ W. StoodBefore (told_for W told) g.K.Keeper.became old new events) (same honest) c.in-Ok.ensures.stood_before honest

pub returns-in-Ok-clause-opened : goal.returns-in-Ok-clause-opened
returns-in-Ok-clause-opened g c =
    let told = g.K.Keeper.told in
    let old = c.args.keeper.now in
    let new = c.run_all.new.keeper in
    let events = c.args.events.now in
    let V = (told_in told old).service in
    let same = gives_in g.K.Keeper.model V told new c.run_all.ensures.stays g.met.K.Keeper.sound in
    opened_of g.K.Keeper.model V told g.K.Keeper.became old new events same c.in-Ok.ensures.opened

pub returns-in-Ok-clause-records : goal.returns-in-Ok-clause-records
returns-in-Ok-clause-records g c = λ honest.
    let told = g.K.Keeper.told in
    let old = c.args.keeper.now in
    let new = c.run_all.new.keeper in
    let events = c.args.events.now in
    let V = (told_in told old).service in
    let same = gives_in g.K.Keeper.model V told new c.run_all.ensures.stays g.met.K.Keeper.sound in
    subst (λ W. DeletesHanded (told_for W told) old new (performances W events) events) (same honest) c.in-Ok.ensures.records honest

pub returns-in-Ok-clause-kept : goal.returns-in-Ok-clause-kept
returns-in-Ok-clause-kept g c = λ honest.
    let told = g.K.Keeper.told in
    let old = c.args.keeper.now in
    let new = c.run_all.new.keeper in
    let events = c.args.events.now in
    let V = (told_in told old).service in
    let same = gives_in g.K.Keeper.model V told new c.run_all.ensures.stays g.met.K.Keeper.sound in
    subst (λ W. KeepsUnhanded (told_for W told) old new (performances W events) events) (same honest) c.in-Ok.ensures.kept honest

pub returns-in-Ok-clause-firm : goal.returns-in-Ok-clause-firm
returns-in-Ok-clause-firm g c = λ honest.
    let told = g.K.Keeper.told in
    let old = c.args.keeper.now in
    let new = c.run_all.new.keeper in
    let events = c.args.events.now in
    let V = (told_in told old).service in
    let same = gives_in g.K.Keeper.model V told new c.run_all.ensures.stays g.met.K.Keeper.sound in
    subst (λ W. (told_in (told_for W told) new).is_honest → IsFirm (told_in (told_for W told) old) → IsFirm (told_in (told_for W told) new)) (same honest) c.in-Ok.ensures.firm honest

pub returns-in-Ok-clause-honest : goal.returns-in-Ok-clause-honest
returns-in-Ok-clause-honest g c =
    let told = g.K.Keeper.told in
    let old = c.args.keeper.now in
    let new = c.run_all.new.keeper in
    let events = c.args.events.now in
    let V = (told_in told old).service in
    honest_of V told old new c.run_all.ensures.honest

pub returns-in-Ok-clause-medium : goal.returns-in-Ok-clause-medium
returns-in-Ok-clause-medium g c =
    let told = g.K.Keeper.told in
    let old = c.args.keeper.now in
    let new = c.run_all.new.keeper in
    let events = c.args.events.now in
    let V = (told_in told old).service in
    medium_of V told old new c.run_all.ensures.medium

pub returns-in-Err-clause-honest : goal.returns-in-Err-clause-honest
returns-in-Err-clause-honest g c =
    let told = g.K.Keeper.told in
    let old = c.args.keeper.now in
    let new = c.run_all.new.keeper in
    let events = c.args.events.now in
    let V = (told_in told old).service in
    honest_of V told old new c.run_all.ensures.honest

pub returns-in-Err-clause-medium : goal.returns-in-Err-clause-medium
returns-in-Err-clause-medium g c =
    let told = g.K.Keeper.told in
    let old = c.args.keeper.now in
    let new = c.run_all.new.keeper in
    let events = c.args.events.now in
    let V = (told_in told old).service in
    medium_of V told old new c.run_all.ensures.medium

pub returns-in-Err-clause-after_fault : goal.returns-in-Err-clause-after_fault
returns-in-Err-clause-after_fault g c = λ start h settled stood none.
    let told = g.K.Keeper.told in
    let old = c.args.keeper.now in
    let new = c.run_all.new.keeper in
    let events = c.args.events.now in
    let V = (told_in told old).service in
    let same = gives_in g.K.Keeper.model V told new c.run_all.ensures.stays g.met.K.Keeper.sound in
    let fault = c.in-Err.fault in
    let clean = clean_too g.K.Keeper.model told new (λ x. (g.met.K.Keeper.sound x).clean_is_honest) in
    left_by (told_in told new) (is_store fault) _ clean (λ honest.
    subst (λ W. (s : g.K.Keeper.model.State) (h' : History) (t : List ℕ) → StandsIn (told_for W told) old s h' t → NoneReused W t (before fault events)
    → LeftBy (told_in (told_for W told) new) (is_store fault)
    (StandsIn (told_for W told) new s (committed W h' (before fault events)) (settled_by W t (before fault events))))
    (same honest) c.in-Err.ensures.after_fault start h settled stood none)

pub returns-in-Err-clause-records_at_fault : goal.returns-in-Err-clause-records_at_fault
returns-in-Err-clause-records_at_fault g c =
    let told = g.K.Keeper.told in
    let old = c.args.keeper.now in
    let new = c.run_all.new.keeper in
    let events = c.args.events.now in
    let V = (told_in told old).service in
    let same = gives_in g.K.Keeper.model V told new c.run_all.ensures.stays g.met.K.Keeper.sound in
    let fault = c.in-Err.fault in
    let clean = clean_too g.K.Keeper.model told new (λ x. (g.met.K.Keeper.sound x).clean_is_honest) in
    left_by (told_in told new) (is_store fault) _ clean (λ honest.
    subst (λ W. LeftBy (told_in (told_for W told) new) (is_store fault)
    (DeletesHanded (told_for W told) old new (performances W (before fault events)) (before fault events)))
    (same honest) c.in-Err.ensures.records_at_fault)

pub returns-in-Err-clause-opened_before : goal.returns-in-Err-clause-opened_before
returns-in-Err-clause-opened_before g c = λ there.
    let told = g.K.Keeper.told in
    let old = c.args.keeper.now in
    let new = c.run_all.new.keeper in
    let events = c.args.events.now in
    let V = (told_in told old).service in
    let same = gives_in g.K.Keeper.model V told new c.run_all.ensures.stays g.met.K.Keeper.sound in
    let fault = c.in-Err.fault in
    let clean = clean_too g.K.Keeper.model told new (λ x. (g.met.K.Keeper.sound x).clean_is_honest) in
    opened_of g.K.Keeper.model V told g.K.Keeper.became old new (before fault events) same (c.in-Err.ensures.opened_before there)

pub returns-in-Err-clause-stood_at_fault : goal.returns-in-Err-clause-stood_at_fault
returns-in-Err-clause-stood_at_fault g c = λ there honest.
    let told = g.K.Keeper.told in
    let old = c.args.keeper.now in
    let new = c.run_all.new.keeper in
    let events = c.args.events.now in
    let V = (told_in told old).service in
    let same = gives_in g.K.Keeper.model V told new c.run_all.ensures.stays g.met.K.Keeper.sound in
    let fault = c.in-Err.fault in
    let clean = clean_too g.K.Keeper.model told new (λ x. (g.met.K.Keeper.sound x).clean_is_honest) in
    subst (λ W. StoodBefore (told_for W told) g.K.Keeper.became old new (before fault events)) (same honest)
    (c.in-Err.ensures.stood_at_fault there) honest

pub returns-in-Err-clause-store : goal.returns-in-Err-clause-store
returns-in-Err-clause-store g c = λ is left.
    let told = g.K.Keeper.told in
    let old = c.args.keeper.now in
    let new = c.run_all.new.keeper in
    let events = c.args.events.now in
    let V = (told_in told old).service in
    let same = gives_in g.K.Keeper.model V told new c.run_all.ensures.stays g.met.K.Keeper.sound in
    let fault = c.in-Err.fault in
    let clean = clean_too g.K.Keeper.model told new (λ x. (g.met.K.Keeper.sound x).clean_is_honest) in
    subst (λ W. (told_in (told_for W told) new).is_clean → (s : g.K.Keeper.model.State) (h' : History) (t : List ℕ) → StandsIn (told_for W told) old s h' t
    → NoneReused W t (before fault events) → AnsweredBy (told_for W told) g.K.Keeper.became old new (before fault events) fault)
    (same (clean left)) (c.in-Err.ensures.store is) left

pub returns-in-Err-clause-firm : goal.returns-in-Err-clause-firm
returns-in-Err-clause-firm g c = λ is honest.
    let told = g.K.Keeper.told in
    let old = c.args.keeper.now in
    let new = c.run_all.new.keeper in
    let events = c.args.events.now in
    let V = (told_in told old).service in
    let same = gives_in g.K.Keeper.model V told new c.run_all.ensures.stays g.met.K.Keeper.sound in
    let fault = c.in-Err.fault in
    let clean = clean_too g.K.Keeper.model told new (λ x. (g.met.K.Keeper.sound x).clean_is_honest) in
    subst (λ W. (told_in (told_for W told) new).is_honest → IsFirm (told_in (told_for W told) old) → IsFirm (told_in (told_for W told) new)) (same honest)
    (c.in-Err.ensures.firm is) honest
