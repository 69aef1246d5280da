-- The values that the tables can store (defined by this project; SQLite: an INTEGER has 64 bits with its sign).
use Rattle.std.specs.Prelude.{◌≡◌, ◌≤◌, ◌<◌, ◌^◌, ◌+◌, [], length}
use Rattle.std.specs.List.{AllByRecursion}
use Rattle.fuse_answer.specs.Said.{FitsAnswer}
use Rattle.fuse_rows.specs.Bounds.{block_bytes}
use Rattle.fuse_rows.specs.Columns.{FitsEntry, FitsHandle}
use Rattle.fuse_rows.specs.declared.rows.NodeRow.{NodeRow}
use Rattle.fuse_store_tables.specs.Blocks.{Block}
use Rattle.fuse_store_tables.specs.Pieces.{Piece}
use Rattle.fuse_store_tables.specs.declared.version.Layout.{Layout}
use Rattle.fuse_store_tables.specs.declared.version.Layout.TheVariants.{Second}
use Rattle.fuse_store_tables.specs.Content.{Content, Kept, HasWidths, HasCount}

-- a node's row that is read back from tables of this layout as it was written
pub record KeepsNode (layout : Layout) (n : NodeRow) : Type 0 where
  pub node : n.node < 2 ^ 63
  pub widths : HasWidths n
  pub count : HasCount layout n

pub record KeepsRecord (k : Kept) : Type 0 where
  pub id : k.id < 2 ^ 63
  pub said : FitsAnswer k.said
  pub errno : k.said.errno < 2 ^ 32

-- a block is whole
abbrev pub IsWhole : Block → Type 0
IsWhole b = length b.bytes ≡ block_bytes

pub record KeepsPiece (p : Piece) : Type 0 where
  -- SQLite gives 1 to the first row
  pub slot : 1 ≤ p.slot
  pub node : p.node < 2 ^ 63
  pub first : p.first < 2 ^ 63
  pub count : p.count < 2 ^ 63
  pub end : p.first + p.count < 2 ^ 63
  pub place : p.place < 2 ^ 63
  pub sum : p.sum < 2 ^ 64

pub record Fits (c : Content) : Type 0 where
  pub nodes : AllByRecursion (KeepsNode c.layout) c.nodes
  pub entries : AllByRecursion FitsEntry c.entries
  pub handles : AllByRecursion FitsHandle c.handles
  pub blocks : AllByRecursion IsWhole c.blocks
  pub kept : AllByRecursion KeepsRecord c.kept
  pub pieces : AllByRecursion KeepsPiece c.pieces
  -- version 2 has none
  pub no_pieces : c.layout ≡ Second → c.pieces ≡ []
