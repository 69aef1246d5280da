use Rattle.std.proofs.Common.{◌∙◌, refl, sym, ap, subst, ◌≡◌, ◌≤◌, length, []}
use Rattle.std.proofs.lemmas.List.{take_all}
use Rattle.fuse_keeper.specs.Group.{entries_of}
use Rattle.fuse_keeper.specs.History.{kept_of}
use Rattle.fuse_guest.specs.Service.{service_of}
use Rattle.guest_store.proofs.KeptOnes.{none_more, some_kept}
use Rattle.guest_store.proofs.transaction.keeps_any.Goals as goal

pub loop-one-init : goal.loop-one-init
loop-one-init c = refl

pub returns-then-not-is_seen-clause-some : goal.returns-then-not-is_seen-clause-some
returns-then-not-is_seen-clause-some c = λ there.
    let V = service_of c.args.ready.now in
    some_kept V c.args.group.now c.loop-one.one-index _ c.loop-one-test.true
    (sym (ap V.sees c.opcode.ensures) ∙ sym c.is_seen.ensures ∙ c.if-not-is_seen.true)

pub loop-one-preserved : goal.loop-one-preserved
loop-one-preserved c =
    let V = service_of c.args.ready.now in
    none_more V c.args.group.now c.loop-one.one-index _ c.loop-one-test.true c.loop-one.invariant
    (sym (ap V.sees c.opcode.ensures) ∙ sym c.is_seen.ensures ∙ c.if-not-is_seen.false)

pub returns-clause-none : goal.returns-clause-none
returns-clause-none c = λ none.
    let past : length c.args.group.now ≤ c.loop-one.one-index = c.loop-one-test.false in
    subst (λ group. kept_of (service_of c.args.ready.now) (entries_of group) ≡ []) (take_all c.loop-one.one-index c.args.group.now past) c.loop-one.invariant
