use Rattle.std.proofs.Common.{◌≡◌, List, map, take}
use Rattle.std.specs.List.{AllByRecursion}
use Rattle.fuse_rows.specs.declared.rows.HandleRow.{HandleRow}
use Rattle.fuse_store_tables.specs.Content.{shown_open}
use Rattle.fuse_store_tree.proofs.handles.read_handles.Given as goal

abbrev pub invariant-loop-row : goal.invariant-loop-row
invariant-loop-row l = (hs : List HandleRow) → AllByRecursion (λ h. h.node ≡ l.node) hs → l.rows ≡ map shown_open hs → l.handles.items ≡ take l.row-index hs
