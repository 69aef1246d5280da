use Rattle.std.proofs.Common.{Result, Ok, Err, refl, sym, ap, ◌∙◌, arith, subst, take}
use Rattle.std.proofs.lemmas.Result.{err_from_is_err_and}
use Rattle.fuse_keeper.specs.declared.fault.StoreFault.{StoreFault}
use Rattle.std.proofs.lemmas.Grind.{common_steps}
use Rattle.std.proofs.lemmas.List.{take_all}
use Rattle.fuse_keeper.specs.Group.{entries_of}
use Rattle.guest_store.specs.Keeping.{store_of}
use Rattle.guest_store.specs.inner.Stepping.{Steps}
use Rattle.guest_store.specs.inner.Transacting.{grouping}
use Rattle.guest_store.specs.declared.group.Transacted.{Transacted}
use Rattle.guest_store.proofs.GroupSteps.{performed_at, take_ends, take_more_of, take_stops, took_them}
use Rattle.guest_store.proofs.Repeated.{silent_more}
use Rattle.guest_store.proofs.group.take_all.Goals as goal

pub take_one-requires-clause-performed : goal.take_one-requires-clause-performed
take_one-requires-clause-performed g c =
    let tell = store_of g.S.Store g.R.Read.remaining g.W.Write.contents in
    performed_at (tell c.args.store.now).talk.ready (tell c.loop-one.store).talk.ready c.args.group.now c.loop-one.one-index _ c.loop-one-test.true
    c.loop-one.invariant.steps.spoke.ready c.requires.performed

pub loop-one-preserved : goal.loop-one-preserved
loop-one-preserved g c =
    let tell = store_of g.S.Store g.R.Read.remaining g.W.Write.contents in
    record {
      count = grind (arith, common_steps);
      steps = take_more_of g.G.Guested.GUEST c.args.deaths c.args.lot c.args.group.now c.loop-one.one-index _ c.loop-one-test.true (tell c.args.store.now) (tell c.loop-one.store)
          (tell c.take_one.new.store) c.loop-one.dones.items c.loop-one.invariant.steps c.in-Ok.done c.push.new.self.items c.in_ok-push.ensures.items c.in-Ok.ensures.steps;
      silent = silent_more (tell c.args.store.now).talk (tell c.loop-one.store).talk (tell c.take_one.new.store).talk c.loop-one.dones.items c.in-Ok.done c.push.new.self.items
          c.in_ok-push.ensures.items c.loop-one.invariant.silent c.in-Ok.ensures.silent;
    }

pub returns-in-Err-clause-steps : goal.returns-in-Err-clause-steps
returns-in-Err-clause-steps g c =
    let tell = store_of g.S.Store g.R.Read.remaining g.W.Write.contents in
    take_stops g.G.Guested.GUEST c.args.deaths c.args.lot c.args.group.now c.loop-one.one-index _ c.loop-one-test.true (tell c.args.store.now) (tell c.loop-one.store)
    (tell c.take_one.new.store) c.loop-one.dones.items c.loop-one.invariant.steps c.in-Err.fault c.in-Err.ensures.steps

pub returns-in_err-push-clause-steps : goal.returns-in_err-push-clause-steps
returns-in_err-push-clause-steps g c =
    let tell = store_of g.S.Store g.R.Read.remaining g.W.Write.contents in
    let G = g.G.Guested.GUEST in
    let p = err_from_is_err_and c.from_residual.result c.from_residual.ensures.1 in
    subst (λ (r : Result Transacted StoreFault). Steps {A = Transacted} G (grouping G c.args.deaths c.args.lot (entries_of c.args.group.now)) (tell c.args.store.now)
    (tell c.take_one.new.store) r) (sym (p.1 ∙ ap (λ (s : StoreFault). Err s) p.2))
    (take_ends G c.args.deaths c.args.lot c.args.group.now c.loop-one.one-index _ c.loop-one-test.true (tell c.args.store.now) (tell c.loop-one.store)
    (tell c.take_one.new.store) c.loop-one.dones.items c.loop-one.invariant.steps c.in-Ok.done c.in-Ok.ensures.steps)

pub returns-clause-steps : goal.returns-clause-steps
returns-clause-steps g c =
    let tell = store_of g.S.Store g.R.Read.remaining g.W.Write.contents in
    let G = g.G.Guested.GUEST in
    let t : Transacted = record { lot = c.args.lot; dones = c.loop-one.dones } in
    subst (λ l. Steps G (grouping G c.args.deaths c.args.lot (entries_of l)) (tell c.args.store.now) (tell c.loop-one.store) (Ok t))
    (take_all c.loop-one.one-index c.args.group.now c.loop-one-test.false)
    (took_them G c.args.deaths c.args.lot (entries_of (take c.loop-one.one-index c.args.group.now)) (tell c.args.store.now) (tell c.loop-one.store) c.loop-one.dones.items t refl refl
    c.loop-one.invariant.steps)
