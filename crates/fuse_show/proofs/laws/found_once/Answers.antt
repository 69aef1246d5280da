use Rattle.fuse_show.proofs.Once as once
use Rattle.fuse_show.proofs.laws.found_once.Goals as goal

pub returns : goal.returns
returns c = record { some = once.finds_something c.rows_of_trees.ensures; once = once.found_once }
