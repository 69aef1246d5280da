use Rattle.fuse_store_tree.proofs.Once.{tree_order}
use Rattle.fuse_store_tree.proofs.laws.rows_in_order.Goals as goal

pub returns : goal.returns
returns c = tree_order
