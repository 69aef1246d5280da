use Rattle.std.proofs.Common.{◌≡◌, [], take}
use Rattle.fuse_keeper.specs.Group.{entries_of}
use Rattle.fuse_keeper.specs.History.{kept_of}
use Rattle.fuse_tree.specs.TheTree.{tree_of}
use Rattle.fuse_store_tree.proofs.seeing.keeps_any.Given as goal

-- none of the first ones is kept
abbrev pub invariant-loop-one : goal.invariant-loop-one
invariant-loop-one l = kept_of (tree_of l.profile).service (entries_of (take l.one-index l.group)) ≡ []
