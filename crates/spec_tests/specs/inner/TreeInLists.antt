-- The state of a keeper of the tree over lists (defined by this project).
use Rattle.fuse_keeper.specs.declared.plain.PlainKeeper.{PlainKeeper}
use Rattle.fuse_keeper.specs.KeeperState.{KeeperState}
use Rattle.fuse_keeper.specs.PlainKeeper.{plain_told}
use Rattle.fuse_lists.specs.declared.plain_tree.PlainTree.{PlainTree}
use Rattle.fuse_init.specs.declared.profile.PlainProfile.{PlainProfile}
use Rattle.fuse_lists.specs.PlainTree.{tree_held}
use Rattle.fuse_init.specs.declared.profile.Profile.TheVariants.{Plain}
use Rattle.fuse_tree.specs.TheTree.{tree_of}

abbrev pub tree_told : PlainKeeper (PlainTree PlainProfile) → KeeperState (tree_of Plain)
tree_told = plain_told (tree_of Plain) tree_held
