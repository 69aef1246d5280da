use Rattle.fuse_keeper.specs.Model.{serving}
use Rattle.fuse_sim.proofs.Lifetimes.{run_is_lived}
use Rattle.fuse_sim.proofs.life.runs_are_lives.Goals as goal

pub returns : goal.returns
returns g c = λ k k' port port' clock clock' ended run. run_is_lived (serving (g.K.Keeper.told k).service g.K.Keeper.model) _ ended run
