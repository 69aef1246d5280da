use Rattle.std.proofs.Common.{subst, sym, All}
use Rattle.fuse_sim.specs.Driving.{IsFit}
use Rattle.fuse_commands.specs.Simulating.{driven}
use Rattle.fuse_commands.proofs.Simulations.{all_fit, ran, stopped, script_left, refused_in}
use Rattle.fuse_commands.proofs.simulate.simulate.Goals as goal

pub run_events-requires-clause-fit : goal.run_events-requires-clause-fit
run_events-requires-clause-fit g c = subst (All IsFit) (sym c.as_slice-2.ensures.value) (all_fit _ _ c.in_ok-events.ensures.found)

pub returns-clause-ok : goal.returns-clause-ok
returns-clause-ok g c =
    let k = g.K.Keeper in
    ran (driven k.told k.became k.performed g.K.Restart.refuses) c.args.keeper.now c.run_events.new.keeper _ _ _ _ _ _ c.run_events.ensures.ok
    c.run_events.ensures.count c.run_events.ensures.begin c.run_events.ensures.asked c.run_events.ensures.opened c.run_events.ensures.counts c.in_ok-script.ensures.ok c.as_slice.ensures.value
    c.in_ok-events.ensures.found c.as_slice-2.ensures.value

pub returns-clause-store : goal.returns-clause-store
returns-clause-store g c =
    let k = g.K.Keeper in
    stopped (driven k.told k.became k.performed g.K.Restart.refuses) c.args.keeper.now c.run_events.new.keeper _ _ _ _ _ _ c.run_events.ensures.store
    c.run_events.ensures.kept c.in_ok-script.ensures.ok c.as_slice.ensures.value c.in_ok-events.ensures.found c.as_slice-2.ensures.value

pub returns-clause-kept : goal.returns-clause-kept
returns-clause-kept g c =
    let k = g.K.Keeper in
    script_left (driven k.told k.became k.performed g.K.Restart.refuses) c.args.keeper.now c.run_events.new.keeper _ _ _ _ _
    c.in_ok-script.ensures.ok c.as_slice.ensures.value c.in_ok-events.ensures.found c.as_slice-2.ensures.value c.run_events.ensures.kept

pub returns-clause-emptied : goal.returns-clause-emptied
returns-clause-emptied g c =
    let k = g.K.Keeper in
    refused_in (driven k.told k.became k.performed g.K.Restart.refuses) c.args.keeper.now c.run_events.new.keeper _ _ _ _ _ _ c.run_events.ensures.emptied
    c.in_ok-script.ensures.ok c.as_slice.ensures.value c.in_ok-events.ensures.found c.as_slice-2.ensures.value
