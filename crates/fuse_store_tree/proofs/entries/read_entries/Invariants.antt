use Rattle.std.proofs.Common.{◌≡◌, List, map, take}
use Rattle.std.specs.List.{AllByRecursion}
use Rattle.fuse_rows.specs.declared.rows.EntryRow.{EntryRow}
use Rattle.fuse_store_tables.specs.Content.{shown_entry}
use Rattle.fuse_store_tree.proofs.entries.read_entries.Given as goal

abbrev pub invariant-loop-row : goal.invariant-loop-row
invariant-loop-row l = (es : List EntryRow) → AllByRecursion (λ e. e.dir ≡ l.dir) es → l.rows ≡ map shown_entry es → l.entries.items ≡ take l.row-index es
