-- The store after the begin of a mount (defined by this project).
use Rattle.std.specs.Prelude.{[]}
use Rattle.fuse_tree.specs.Clearing.{cleared_tree}
use Rattle.fuse_store_tree.specs.Holding.{Holding}

-- without records and lots, and without the state of the last mount in the tree
abbrev pub cleared_for : Holding → Holding
cleared_for y = record { tree = cleared_tree y.tree; kept = []; lots = []; next_lot = y.next_lot }
