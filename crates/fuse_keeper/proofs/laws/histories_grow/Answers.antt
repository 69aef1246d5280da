use Rattle.fuse_keeper.specs.Model.{serving}
use Rattle.fuse_keeper.proofs.Histories.{has-add, said-grown, Distinct-grown}
use Rattle.fuse_keeper.proofs.Seeing.{answers-more}
use Rattle.fuse_keeper.proofs.laws.histories_grow.Goals as goal

pub returns : goal.returns
returns g c = λ V.
    let M = serving V g.K.Keeper.model in
    record { added = has-add; stays = said-grown M; distinct = Distinct-grown; one_more = answers-more M }
