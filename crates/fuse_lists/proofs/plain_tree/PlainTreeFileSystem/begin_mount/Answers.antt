use Rattle.fuse_lists.specs.PlainRows.{rows_of}
use Rattle.fuse_lists.proofs.PlainTrees.{tree_clears}
use Rattle.fuse_lists.proofs.plain_tree.PlainTreeFileSystem.begin_mount.Goals as goal

pub returns : goal.returns
returns g c =
    tree_clears g.P.Profiled.PROFILE (rows_of c.args.self.now.rows) (rows_of c.begin_mount.new.self) c.clearing.ensures
    c.begin_mount.ensures.rows
