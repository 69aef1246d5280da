use Rattle.fuse_session.proofs.Outs.{answered_stays}
use Rattle.fuse_session.proofs.laws.answers_stay.Goals as goal

pub returns : goal.returns
returns g c = answered_stays g.K.Keeper.model (c.histories_grow.ensures g.K.Keeper.model.service)
