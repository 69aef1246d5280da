use Rattle.std.proofs.Common.{◌∙◌, refl, sym, ap, subst, ◌≡◌, ◌≤◌, length, []}
use Rattle.std.proofs.lemmas.List.{take_all}
use Rattle.fuse_keeper.specs.Group.{entries_of}
use Rattle.fuse_keeper.specs.History.{kept_of}
use Rattle.fuse_keeper.proofs.Seeing.{none_more, some_kept}
use Rattle.fuse_keeper.proofs.pending.has_kept.Goals as goal

pub loop-one-init : goal.loop-one-init
loop-one-init g c = refl

pub returns-then-not-sees-clause-some : goal.returns-then-not-sees-clause-some
returns-then-not-sees-clause-some g c = λ there.
    let V = (g.K.Keeper.told c.args.keeper.now).service in
    some_kept V c.args.group.now c.loop-one.one-index _ c.loop-one-test.true (sym (ap V.sees c.opcode.ensures) ∙ sym c.sees.ensures ∙ c.if-not-sees.true)

pub loop-one-preserved : goal.loop-one-preserved
loop-one-preserved g c =
    let V = (g.K.Keeper.told c.args.keeper.now).service in
    none_more V c.args.group.now c.loop-one.one-index _ c.loop-one-test.true c.loop-one.invariant
    (sym (ap V.sees c.opcode.ensures) ∙ sym c.sees.ensures ∙ c.if-not-sees.false)

pub returns-clause-none : goal.returns-clause-none
returns-clause-none g c = λ none.
    let past : length c.args.group.now ≤ c.loop-one.one-index = c.loop-one-test.false in
    subst (λ group. kept_of (g.K.Keeper.told c.args.keeper.now).service (entries_of group) ≡ []) (take_all c.loop-one.one-index c.args.group.now past) c.loop-one.invariant
