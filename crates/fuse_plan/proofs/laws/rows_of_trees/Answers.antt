use Rattle.fuse_plan.proofs.RowsOfTrees as rows
use Rattle.fuse_plan.proofs.laws.rows_of_trees.Goals as goal

pub returns : goal.returns
returns c = rows.rows_of_trees
