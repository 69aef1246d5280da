use Rattle.fuse_keeper.proofs.Firsts.{first_said}
use Rattle.fuse_keeper.proofs.InARow.{none_taken, one_more_taken, same_taken, taken_is_performed}
use Rattle.fuse_keeper.proofs.Performing.{none_yet, one_more}
use Rattle.fuse_keeper.proofs.laws.groups_of_model_grow.Goals as goal

pub returns : goal.returns
returns g c = record {
  none_yet = none_yet g.M.Modelled.model;
  one_more = one_more g.M.Modelled.model;
  none_taken = none_taken g.M.Modelled.model;
  one_more_taken = one_more_taken g.M.Modelled.model;
  same_taken = same_taken g.M.Modelled.model;
  taken_is_performed = taken_is_performed g.M.Modelled.model;
  first_said = first_said g.M.Modelled.model;
}
