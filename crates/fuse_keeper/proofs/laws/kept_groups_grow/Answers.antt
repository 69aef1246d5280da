use Rattle.fuse_keeper.specs.Model.{serving}
use Rattle.fuse_keeper.proofs.Firsts.{first_said}
use Rattle.fuse_keeper.proofs.InARow.{none_taken, one_more_taken, same_taken, taken_is_performed}
use Rattle.fuse_keeper.proofs.Performing.{none_yet, one_more}
use Rattle.fuse_keeper.proofs.laws.kept_groups_grow.Goals as goal

pub returns : goal.returns
returns g c = λ V. record {
  none_yet = none_yet (serving V g.K.Keeper.model);
  one_more = one_more (serving V g.K.Keeper.model);
  none_taken = none_taken (serving V g.K.Keeper.model);
  one_more_taken = one_more_taken (serving V g.K.Keeper.model);
  same_taken = same_taken (serving V g.K.Keeper.model);
  taken_is_performed = taken_is_performed (serving V g.K.Keeper.model);
  first_said = first_said (serving V g.K.Keeper.model);
}
