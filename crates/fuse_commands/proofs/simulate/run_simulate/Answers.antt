use Rattle.fuse_commands.specs.Simulating.{driven}
use Rattle.fuse_commands.proofs.Simulations.{simulated}
use Rattle.fuse_commands.proofs.simulate.run_simulate.Goals as goal

pub returns-in-Ok-print_simulation-clause-simulated : goal.returns-in-Ok-print_simulation-clause-simulated
returns-in-Ok-print_simulation-clause-simulated g c =
    let k = g.K.Keeper in
    simulated (driven k.told k.became k.performed g.K.Restart.refuses) c.args.keeper.now c.simulate.new.keeper (g.R.Read.remaining c.args.reader)
    c.in-Ok.simulation (g.W.Write.contents c.args.writer.now) (g.W.Write.contents c.print_simulation.new.writer) c.in-Ok.ensures.ok
    c.in-Ok-print_simulation.ensures.ok
