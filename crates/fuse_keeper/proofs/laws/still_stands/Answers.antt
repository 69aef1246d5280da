use Rattle.fuse_keeper.specs.Model.{serving}
use Rattle.fuse_keeper.proofs.Standing.{Stands-same, Stands-settled}
use Rattle.fuse_keeper.proofs.laws.still_stands.Goals as goal

pub returns : goal.returns
returns g c = λ V. record { same = Stands-same (serving V g.K.Keeper.model); settled = Stands-settled (serving V g.K.Keeper.model) }
