use Rattle.std.proofs.Common.{ap, not, ◌∙◌}
use Rattle.fuse_store_tree.proofs.Looks.{found_at}
use Rattle.fuse_store_tree.proofs.block_counts.is_there.Goals as goal

pub returns : goal.returns
returns c o is = ap not c.is_empty.ensures ∙ found_at c.args.rows.now o is
