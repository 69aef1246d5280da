use Rattle.fuse_keeper.proofs.Firsts.{first_said}
use Rattle.fuse_keeper.proofs.InARow.{none_taken, one_more_taken, same_taken, taken_is_performed}
use Rattle.fuse_keeper.proofs.Performing.{none_yet, one_more}
use Rattle.fuse_keeper.proofs.laws.groups_grow.Goals as goal

pub returns : goal.returns
returns g c = record {
  none_yet = none_yet g.F.FileSystem.model;
  one_more = one_more g.F.FileSystem.model;
  none_taken = none_taken g.F.FileSystem.model;
  one_more_taken = one_more_taken g.F.FileSystem.model;
  same_taken = same_taken g.F.FileSystem.model;
  taken_is_performed = taken_is_performed g.F.FileSystem.model;
  first_said = first_said g.F.FileSystem.model;
}
