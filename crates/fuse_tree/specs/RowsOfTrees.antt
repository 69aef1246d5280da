-- True of the rows of each tree (defined by this project): a reader of rows may rely on it.
use Rattle.std.specs.Prelude.{◌≡◌, ◌≢◌, ◌<◌, ◌≤◌, ℕ, length, Some, None, IfSome}
use Rattle.std.specs.Option.{option_map}
use Rattle.std.specs.List.{AllByRecursion}
use Rattle.fuse_rows.specs.Bounds.{fuse_root_id}
use Rattle.fuse_rows.specs.declared.rows.NodeRow.{NodeRow}
use Rattle.fuse_rows.specs.declared.rows.Full.{Full}
use Rattle.fuse_rows.specs.declared.rows.EntryRow.{EntryRow}
use Rattle.fuse_tree.specs.State.{Apart, AreWritten}
use Rattle.fuse_rows.specs.Rows.{Rows, row_at, full_at, content_of, terms_at}
use Rattle.fuse_tree.specs.Rowed.{IsRowed}

-- the entry leads to a row
abbrev pub LeadsToRow : Rows → EntryRow → Type 0
LeadsToRow rows e = row_at rows e.child ≢ None

-- the size in the row of a node is that of its content, which fits into a file
pub record IsSized (rows : Rows) (number : ℕ) (row : NodeRow) : Type 0 where
  pub told : row.size ≡ length (content_of (full_at rows number))
  pub within : row.size ≤ (terms_at rows).file_limit

-- the row of a node counts its written blocks, and they are those of its bytes
pub record CountsWritten (f : Full) : Type 0 where
  pub told : f.row.written ≡ option_map length f.content.blocks
  pub written : IfSome f.content.blocks (AreWritten f.content.bytes)

-- the root is there, each entry leads to a row, cookies rise from 3 on, and sizes and counts are right
pub record OfTree (rows : Rows) : Type 0 where
  pub root : row_at rows fuse_root_id ≢ None
  pub children : AllByRecursion (LeadsToRow rows) rows.entries
  pub cookies : AllByRecursion (λ e. 3 ≤ e.cookie) rows.entries
  pub rise : Apart (λ e later. e.cookie < later.cookie) rows.entries
  pub counts : AllByRecursion CountsWritten rows.nodes
  pub sizes : (number : ℕ) (row : NodeRow) → row_at rows number ≡ Some row → IsSized rows number row

abbrev pub RowsOfTrees : Type 0
RowsOfTrees = (rows : Rows) → IsRowed rows → OfTree rows
