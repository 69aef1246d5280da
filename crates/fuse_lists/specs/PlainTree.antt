-- The rows of a tree over lists (defined by this project).
use Rattle.fuse_rows.specs.Rows.{Rows}
use Rattle.fuse_lists.specs.PlainRows.{rows_of}
use Rattle.fuse_lists.specs.declared.plain_tree.PlainTree.{PlainTree}

abbrev pub tree_held : {P : Type 0} → PlainTree P → Rows
tree_held t = rows_of t.rows
