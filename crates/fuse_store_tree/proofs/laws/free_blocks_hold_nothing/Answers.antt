use Rattle.fuse_store_tree.proofs.FreeBlocks.{holds_nothing}
use Rattle.fuse_store_tree.proofs.laws.free_blocks_hold_nothing.Goals as goal

pub returns : goal.returns
returns c = holds_nothing
