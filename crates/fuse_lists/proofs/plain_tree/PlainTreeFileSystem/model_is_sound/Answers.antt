use Rattle.fuse_lists.proofs.PlainTrees.{tree_is_sound}
use Rattle.fuse_lists.proofs.plain_tree.PlainTreeFileSystem.model_is_sound.Goals as goal

pub returns : goal.returns
returns g c =
    tree_is_sound g.P.Profiled.PROFILE c.answers_fit.ensures c.new_store_is_tree.ensures c.tree_kept.ensures c.looks_stay.ensures c.clearing.ensures
