use Rattle.std.proofs.Common.{◌≡◌, ◌∙◌, inl, inr, [], All, if◌then◌else◌, sym, ap, subst, length, arith}
use Rattle.fuse_keeper.specs.Model.{serving}
use Rattle.fuse_keeper.specs.KeeperState.{of_service, Performs, ActsOn, KeepsOthers, KeepsLots, LeavesGroup, LeavesActed}
use Rattle.fuse_keeper.specs.History.{kept_of}
use Rattle.fuse_keeper.specs.Group.{entries_of, IsPerformed, ids_of, handed_to}
use Rattle.fuse_keeper.proofs.Handing.{handed_by, left_by, asked_all, gives}
use Rattle.fuse_keeper.proofs.pending.perform_group.Goals as goal

pub returns-in-Ok-clause-ok : goal.returns-in-Ok-clause-ok
returns-in-Ok-clause-ok g c = λ honest.
    let k = g.K.Keeper.told c.args.keeper.now in
    let k' = g.K.Keeper.told c.perform.new.self in
    let kept = kept_of g.service (entries_of c.args.group.now) in
    let ids = ids_of c.args.pending.now.items in
    let all : ids_of c.handed.result.now ≡ handed_to kept ids = c.handed.ensures
    ∙ ap (λ xs. if c.has_kept-kept.result then xs else []) (ap ids_of c.as_slice.ensures.value)
    ∙ handed_by g.service (g.K.Keeper.told c.args.keeper.now).service (entries_of c.args.group.now) ids c.has_kept-kept.result c.requires.1.0
    c.has_kept-kept.ensures.some c.has_kept-kept.ensures.none in
    let same = gives g.service k k' c.requires.1.0 c.perform.ensures.called.service (g.met.K.Keeper.sound c.perform.new.self) honest in
    subst (λ V. Performs {M = serving V g.K.Keeper.model} (of_service V k) (of_service V k') (handed_to kept ids) (entries_of c.args.group.now) c.in-Ok.dones.items) (sym same)
    (subst (λ x. Performs k k' x (entries_of c.args.group.now) c.in-Ok.dones.items) all c.in-Ok.ensures.ok) honest

pub returns-in-Ok-clause-acts : goal.returns-in-Ok-clause-acts
returns-in-Ok-clause-acts g c = λ honest.
    let k = g.K.Keeper.told c.args.keeper.now in
    let k' = g.K.Keeper.told c.perform.new.self in
    let kept = kept_of g.service (entries_of c.args.group.now) in
    let ids = ids_of c.args.pending.now.items in
    let all : ids_of c.handed.result.now ≡ handed_to kept ids = c.handed.ensures
    ∙ ap (λ xs. if c.has_kept-kept.result then xs else []) (ap ids_of c.as_slice.ensures.value)
    ∙ handed_by g.service (g.K.Keeper.told c.args.keeper.now).service (entries_of c.args.group.now) ids c.has_kept-kept.result c.requires.1.0
    c.has_kept-kept.ensures.some c.has_kept-kept.ensures.none in
    let same = gives g.service k k' c.requires.1.0 c.perform.ensures.called.service (g.met.K.Keeper.sound c.perform.new.self) honest in
    subst (λ V. ActsOn {M = serving V g.K.Keeper.model} (of_service V k) (of_service V k') (handed_to kept ids) (entries_of c.args.group.now) c.in-Ok.dones.items) (sym same)
    (subst (λ x. ActsOn k k' x (entries_of c.args.group.now) c.in-Ok.dones.items) all c.in-Ok.ensures.acts) honest

pub returns-in-Ok-clause-others : goal.returns-in-Ok-clause-others
returns-in-Ok-clause-others g c = λ honest.
    let k = g.K.Keeper.told c.args.keeper.now in
    let k' = g.K.Keeper.told c.perform.new.self in
    let kept = kept_of g.service (entries_of c.args.group.now) in
    let ids = ids_of c.args.pending.now.items in
    let all : ids_of c.handed.result.now ≡ handed_to kept ids = c.handed.ensures
    ∙ ap (λ xs. if c.has_kept-kept.result then xs else []) (ap ids_of c.as_slice.ensures.value)
    ∙ handed_by g.service (g.K.Keeper.told c.args.keeper.now).service (entries_of c.args.group.now) ids c.has_kept-kept.result c.requires.1.0
    c.has_kept-kept.ensures.some c.has_kept-kept.ensures.none in
    let same = gives g.service k k' c.requires.1.0 c.perform.ensures.called.service (g.met.K.Keeper.sound c.perform.new.self) honest in
    subst (λ V. KeepsOthers {M = serving V g.K.Keeper.model} (of_service V k) (of_service V k') (handed_to kept ids) (entries_of c.args.group.now)) (sym same)
    (subst (λ x. KeepsOthers k k' x (entries_of c.args.group.now)) all c.in-Ok.ensures.others) honest

pub returns-in-Ok-clause-lots : goal.returns-in-Ok-clause-lots
returns-in-Ok-clause-lots g c = λ honest.
    let k = g.K.Keeper.told c.args.keeper.now in
    let k' = g.K.Keeper.told c.perform.new.self in
    let kept = kept_of g.service (entries_of c.args.group.now) in
    let ids = ids_of c.args.pending.now.items in
    let all : ids_of c.handed.result.now ≡ handed_to kept ids = c.handed.ensures
    ∙ ap (λ xs. if c.has_kept-kept.result then xs else []) (ap ids_of c.as_slice.ensures.value)
    ∙ handed_by g.service (g.K.Keeper.told c.args.keeper.now).service (entries_of c.args.group.now) ids c.has_kept-kept.result c.requires.1.0
    c.has_kept-kept.ensures.some c.has_kept-kept.ensures.none in
    let same = gives g.service k k' c.requires.1.0 c.perform.ensures.called.service (g.met.K.Keeper.sound c.perform.new.self) honest in
    subst (λ V. KeepsLots {M = serving V g.K.Keeper.model} (of_service V k) (of_service V k') (handed_to kept ids) (entries_of c.args.group.now)) (sym same)
    (subst (λ x. KeepsLots k k' x (entries_of c.args.group.now)) all c.in-Ok.ensures.lots) honest

pub returns-in-Ok-clause-crash : goal.returns-in-Ok-clause-crash
returns-in-Ok-clause-crash g c =
    let kept = kept_of g.service (entries_of c.args.group.now) in
    let ids = ids_of c.args.pending.now.items in
    let all : ids_of c.handed.result.now ≡ handed_to kept ids = c.handed.ensures
    ∙ ap (λ xs. if c.has_kept-kept.result then xs else []) (ap ids_of c.as_slice.ensures.value)
    ∙ handed_by g.service (g.K.Keeper.told c.args.keeper.now).service (entries_of c.args.group.now) ids c.has_kept-kept.result c.requires.1.0
    c.has_kept-kept.ensures.some c.has_kept-kept.ensures.none in
    subst (λ x. LeavesGroup (g.K.Keeper.told c.args.keeper.now) (g.K.Keeper.told c.perform.new.self) x (entries_of c.args.group.now)) all
    c.perform.ensures.crash

pub returns-in-Ok-clause-crash_acts : goal.returns-in-Ok-clause-crash_acts
returns-in-Ok-clause-crash_acts g c =
    let kept = kept_of g.service (entries_of c.args.group.now) in
    let ids = ids_of c.args.pending.now.items in
    let all : ids_of c.handed.result.now ≡ handed_to kept ids = c.handed.ensures
    ∙ ap (λ xs. if c.has_kept-kept.result then xs else []) (ap ids_of c.as_slice.ensures.value)
    ∙ handed_by g.service (g.K.Keeper.told c.args.keeper.now).service (entries_of c.args.group.now) ids c.has_kept-kept.result c.requires.1.0
    c.has_kept-kept.ensures.some c.has_kept-kept.ensures.none in
    subst (λ x. LeavesActed (g.K.Keeper.told c.args.keeper.now) (g.K.Keeper.told c.perform.new.self) x (entries_of c.args.group.now)) all
    c.perform.ensures.crash_acts

pub returns-in-Err-clause-crash : goal.returns-in-Err-clause-crash
returns-in-Err-clause-crash g c =
    let kept = kept_of g.service (entries_of c.args.group.now) in
    let ids = ids_of c.args.pending.now.items in
    let all : ids_of c.handed.result.now ≡ handed_to kept ids = c.handed.ensures
    ∙ ap (λ xs. if c.has_kept-kept.result then xs else []) (ap ids_of c.as_slice.ensures.value)
    ∙ handed_by g.service (g.K.Keeper.told c.args.keeper.now).service (entries_of c.args.group.now) ids c.has_kept-kept.result c.requires.1.0
    c.has_kept-kept.ensures.some c.has_kept-kept.ensures.none in
    subst (λ x. LeavesGroup (g.K.Keeper.told c.args.keeper.now) (g.K.Keeper.told c.perform.new.self) x (entries_of c.args.group.now)) all
    c.perform.ensures.crash

pub returns-in-Err-clause-crash_acts : goal.returns-in-Err-clause-crash_acts
returns-in-Err-clause-crash_acts g c =
    let kept = kept_of g.service (entries_of c.args.group.now) in
    let ids = ids_of c.args.pending.now.items in
    let all : ids_of c.handed.result.now ≡ handed_to kept ids = c.handed.ensures
    ∙ ap (λ xs. if c.has_kept-kept.result then xs else []) (ap ids_of c.as_slice.ensures.value)
    ∙ handed_by g.service (g.K.Keeper.told c.args.keeper.now).service (entries_of c.args.group.now) ids c.has_kept-kept.result c.requires.1.0
    c.has_kept-kept.ensures.some c.has_kept-kept.ensures.none in
    subst (λ x. LeavesActed (g.K.Keeper.told c.args.keeper.now) (g.K.Keeper.told c.perform.new.self) x (entries_of c.args.group.now)) all
    c.perform.ensures.crash_acts

pub returns-in-Ok-clause-asked : goal.returns-in-Ok-clause-asked
returns-in-Ok-clause-asked g c =
    let some : length c.args.group.now ≡ 0 → ⊥ = λ none. grind (arith, none, c.is_empty.ensures, c.if-is_empty.false) in
    let kept = kept_of g.service (entries_of c.args.group.now) in
    let ids = ids_of c.args.pending.now.items in
    let all : ids_of c.handed.result.now ≡ handed_to kept ids = c.handed.ensures
    ∙ ap (λ xs. if c.has_kept-kept.result then xs else []) (ap ids_of c.as_slice.ensures.value)
    ∙ handed_by g.service (g.K.Keeper.told c.args.keeper.now).service (entries_of c.args.group.now) ids c.has_kept-kept.result c.requires.1.0
    c.has_kept-kept.ensures.some c.has_kept-kept.ensures.none in
    asked_all (g.K.Keeper.performed c.args.keeper.now c.perform.new.self) c.args.group.now _ (handed_to kept ids) some all c.perform.ensures.asked

pub returns-in-Err-clause-asked : goal.returns-in-Err-clause-asked
returns-in-Err-clause-asked g c =
    let some : length c.args.group.now ≡ 0 → ⊥ = λ none. grind (arith, none, c.is_empty.ensures, c.if-is_empty.false) in
    let kept = kept_of g.service (entries_of c.args.group.now) in
    let ids = ids_of c.args.pending.now.items in
    let all : ids_of c.handed.result.now ≡ handed_to kept ids = c.handed.ensures
    ∙ ap (λ xs. if c.has_kept-kept.result then xs else []) (ap ids_of c.as_slice.ensures.value)
    ∙ handed_by g.service (g.K.Keeper.told c.args.keeper.now).service (entries_of c.args.group.now) ids c.has_kept-kept.result c.requires.1.0
    c.has_kept-kept.ensures.some c.has_kept-kept.ensures.none in
    asked_all (g.K.Keeper.performed c.args.keeper.now c.perform.new.self) c.args.group.now _ (handed_to kept ids) some all c.perform.ensures.asked

pub returns-in-Ok-clause-firm : goal.returns-in-Ok-clause-firm
returns-in-Ok-clause-firm g c = λ honest which.
    c.in-Ok.ensures.firm honest (elim which [
      | inl firm ↦ inl firm
      | inr some ↦ inr (λ only. some (ap (λ V. kept_of V (entries_of c.args.group.now)) (sym c.requires.1.0) ∙ only.0))
    ])

pub returns-in-Ok-clause-pending : goal.returns-in-Ok-clause-pending
returns-in-Ok-clause-pending g c =
    c.forget_if.ensures.ids ∙ left_by g.service (g.K.Keeper.told c.args.keeper.now).service (entries_of c.args.group.now)
    (ids_of c.args.pending.now.items) c.has_kept-kept.result c.requires.1.0 c.has_kept-kept.ensures.some c.has_kept-kept.ensures.none

pub returns-in-Ok-clause-looked : goal.returns-in-Ok-clause-looked
returns-in-Ok-clause-looked g c = λ none.
    let kept = kept_of g.service (entries_of c.args.group.now) in
    let ids = ids_of c.args.pending.now.items in
    let all : ids_of c.handed.result.now ≡ handed_to kept ids = c.handed.ensures
    ∙ ap (λ xs. if c.has_kept-kept.result then xs else []) (ap ids_of c.as_slice.ensures.value)
    ∙ handed_by g.service (g.K.Keeper.told c.args.keeper.now).service (entries_of c.args.group.now) ids c.has_kept-kept.result c.requires.1.0
    c.has_kept-kept.ensures.some c.has_kept-kept.ensures.none in
    c.in-Ok.ensures.looked (ap (λ V. kept_of V (entries_of c.args.group.now)) c.requires.1.0 ∙ none, all ∙ ap (λ k. handed_to k ids) none)

pub returns-in-Err-clause-looked : goal.returns-in-Err-clause-looked
returns-in-Err-clause-looked g c = λ none.
    let kept = kept_of g.service (entries_of c.args.group.now) in
    let ids = ids_of c.args.pending.now.items in
    let all : ids_of c.handed.result.now ≡ handed_to kept ids = c.handed.ensures
    ∙ ap (λ xs. if c.has_kept-kept.result then xs else []) (ap ids_of c.as_slice.ensures.value)
    ∙ handed_by g.service (g.K.Keeper.told c.args.keeper.now).service (entries_of c.args.group.now) ids c.has_kept-kept.result c.requires.1.0
    c.has_kept-kept.ensures.some c.has_kept-kept.ensures.none in
    c.in-Err.ensures.looked (ap (λ V. kept_of V (entries_of c.args.group.now)) c.requires.1.0 ∙ none, all ∙ ap (λ k. handed_to k ids) none)

pub perform-requires-clause-performed : goal.perform-requires-clause-performed
perform-requires-clause-performed g c =
    subst (λ V. All (IsPerformed V) (entries_of c.args.group.now)) (sym c.requires.1.0) c.requires.1.1.1.1.1
