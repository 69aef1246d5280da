use Rattle.std.proofs.Common.{sym, ◌∙◌}
use Rattle.fuse_show.proofs.Trees.{root_there}
use Rattle.fuse_show.proofs.lookup.find_root.Goals as goal

pub returns-in_default-clause-found : goal.returns-in_default-clause-found
returns-in_default-clause-found g c = λ clean rows is sees.
    root_there c.rows_of_trees.ensures rows is (sym (c.in_ok-row.ensures.row clean rows is sees) ∙ c.in_default.is)
