use Rattle.std.proofs.Common.{◌≡◌, List, map, take}
use Rattle.std.specs.List.{AllByRecursion}
use Rattle.fuse_rows.specs.declared.rows.Child.{Child}
use Rattle.fuse_store_tree.specs.inner.Reading.{shown_beside, IsReadBack}
use Rattle.fuse_store_tree.proofs.entries.read_children.Given as goal

abbrev pub invariant-loop-row : goal.invariant-loop-row
invariant-loop-row l = (xs : List Child) → AllByRecursion (IsReadBack l.layout l.dir) xs → l.rows ≡ map (shown_beside l.layout) xs → l.children.items ≡ take l.row-index xs
