use Rattle.std.proofs.Common.{All, subst}
use Rattle.std.proofs.lemmas.List.{take_all}
use Rattle.std.proofs.lemmas.List.Elements.{All-nil, All-more}
use Rattle.fuse_keeper.specs.Group.{entry_of, HasId}
use Rattle.fuse_request.specs.Act.{IsPerformedFor}
use Rattle.fuse_request.specs.Opcodes.{profile_alone}
use Rattle.store_tests.proofs.groups.are_kept.Goals as goal

pub loop-one-init : goal.loop-one-init
loop-one-init c = record { ids = All-nil (λ p. HasId (entry_of p)); performed = All-nil (λ p. IsPerformedFor profile_alone (entry_of p).asked.act) }

pub loop-one-preserved : goal.loop-one-preserved
loop-one-preserved c = record {
  ids =
      All-more (λ p. HasId (entry_of p)) c.args.group.now c.loop-one.one-index _ c.loop-one-test.true c.loop-one.invariant.ids
      (c.is_kept.ensures.id c.if-not-is_kept.false);
  performed =
      All-more (λ p. IsPerformedFor profile_alone (entry_of p).asked.act) c.args.group.now c.loop-one.one-index _ c.loop-one-test.true c.loop-one.invariant.performed
      (c.is_kept.ensures.performed c.if-not-is_kept.false);
}

pub returns-clause-ids : goal.returns-clause-ids
returns-clause-ids c =
    λ _. subst (All (λ p. HasId (entry_of p))) (take_all c.loop-one.one-index c.args.group.now c.loop-one-test.false) c.loop-one.invariant.ids

pub returns-clause-performed : goal.returns-clause-performed
returns-clause-performed c =
    λ _. subst (All (λ p. IsPerformedFor profile_alone (entry_of p).asked.act)) (take_all c.loop-one.one-index c.args.group.now c.loop-one-test.false) c.loop-one.invariant.performed
