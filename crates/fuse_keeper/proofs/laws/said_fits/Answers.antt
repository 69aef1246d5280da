use Rattle.fuse_keeper.proofs.Histories as histories
use Rattle.fuse_keeper.proofs.laws.said_fits.Goals as goal

pub returns : goal.returns
returns g c = histories.said_fits g.K.Keeper.model c.model_is_sound.ensures
