use Rattle.std.proofs.Common.{◌∙◌, refl, sym, ap, subst, ◌≡◌, ◌≤◌, length, []}
use Rattle.std.proofs.lemmas.List.{take_all}
use Rattle.fuse_keeper.specs.Group.{entries_of}
use Rattle.fuse_keeper.specs.History.{kept_of}
use Rattle.fuse_store_tree.proofs.KeptOnes.{none_more, some_kept}
use Rattle.fuse_tree.specs.TheTree.{tree_of}
use Rattle.fuse_store_tree.proofs.seeing.keeps_any.Goals as goal

pub loop-one-init : goal.loop-one-init
loop-one-init c = refl

pub returns-then-not-sees_requests-clause-some : goal.returns-then-not-sees_requests-clause-some
returns-then-not-sees_requests-clause-some c = λ there.
    let V = (tree_of c.args.profile).service in
    some_kept V c.args.group.now c.loop-one.one-index _ c.loop-one-test.true
    (sym (ap V.sees c.opcode.ensures) ∙ sym c.sees_requests.ensures ∙ c.if-not-sees_requests.true)

pub loop-one-preserved : goal.loop-one-preserved
loop-one-preserved c =
    let V = (tree_of c.args.profile).service in
    none_more V c.args.group.now c.loop-one.one-index _ c.loop-one-test.true c.loop-one.invariant
    (sym (ap V.sees c.opcode.ensures) ∙ sym c.sees_requests.ensures ∙ c.if-not-sees_requests.false)

pub returns-clause-none : goal.returns-clause-none
returns-clause-none c = λ none.
    let past : length c.args.group.now ≤ c.loop-one.one-index = c.loop-one-test.false in
    subst (λ group. kept_of (tree_of c.args.profile).service (entries_of group) ≡ []) (take_all c.loop-one.one-index c.args.group.now past) c.loop-one.invariant
