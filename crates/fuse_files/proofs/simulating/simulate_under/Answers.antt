use Rattle.fuse_files.proofs.Scripted.{ran_new, simulated_new}
use Rattle.fuse_files.proofs.simulating.simulate_under.Goals as goal

pub returns-clause-simulated : goal.returns-clause-simulated
returns-clause-simulated g c = λ sure.
    simulated_new g.P.Profiled.PROFILE c.args.kind g.D.Crashing.crashed _ _ sure c.new_keeper-keeper.result c.new_keeper-keeper.ensures.stands
    c.simulate_crashing.ensures.ran c.simulate_crashing.ensures.fault

pub returns-clause-ran : goal.returns-clause-ran
returns-clause-ran g c =
    ran_new g.P.Profiled.PROFILE c.args.kind g.D.Crashing.crashed _ _ c.args.files.0 c.new_keeper-keeper.result c.new_keeper-keeper.ensures.stands
    c.new_keeper-keeper.ensures.firm c.new_keeper-keeper.ensures.blank c.new_keeper-keeper.ensures.fault c.simulate_crashing.ensures.ran c.simulate_crashing.ensures.fault
