use Rattle.fuse_plan.proofs.NewStore.{new_tree}
use Rattle.fuse_plan.proofs.laws.new_store_is_tree.Goals as goal

pub returns : goal.returns
returns c = new_tree
