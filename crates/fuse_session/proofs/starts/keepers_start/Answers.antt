use Rattle.fuse_session.proofs.KeeperStarts.{is_start, few_often}
use Rattle.fuse_session.proofs.starts.keepers_start.Goals as goal

pub returns : goal.returns
returns g c = record {
  once = is_start g.K.Keeper.model g.K.Keeper.told;
  often = few_often g.K.Keeper.model g.K.Keeper.told;
}
