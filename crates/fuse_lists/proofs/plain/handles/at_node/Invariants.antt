use Rattle.std.specs.Prelude.{◌≡◌, take}
use Rattle.fuse_rows.specs.Rows.{handles_of}
use Rattle.fuse_lists.proofs.plain.handles.at_node.Given as goal

abbrev pub invariant-loop-handle : goal.invariant-loop-handle
invariant-loop-handle l = l.found.items ≡ handles_of (take l.handle-index l.handles) l.node l.limit
