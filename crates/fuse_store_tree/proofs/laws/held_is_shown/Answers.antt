use Rattle.fuse_store_tree.proofs.Resting.{held_shown}
use Rattle.fuse_store_tree.proofs.laws.held_is_shown.Goals as goal

pub returns : goal.returns
returns c = held_shown
