-- The tables of version 2, as they are dropped one after the other (defined by this project).
use Rattle.std.specs.Prelude.{◌≡◌, ⊤}
use Rattle.sqlite.specs.Schema.{Schema}
use Rattle.sqlite.specs.Effect.{Database, IsDatabase}
use Rattle.sqlite_catalog.specs.Change.{without_table}
use Rattle.fuse_store_tables.specs.Layout.{store_schema}

-- the tables of this schema, whatever their rows
pub record HasSchema (s : Schema) (c : ⊤) (d : Database) : Type 0 where
  pub schema : d.schema ≡ s
  pub sound : IsDatabase d

abbrev pub left_by_kept : Schema
left_by_kept = without_table store_schema 10

abbrev pub left_by_lots : Schema
left_by_lots = without_table left_by_kept 9

abbrev pub left_by_answers : Schema
left_by_answers = without_table left_by_lots 8

abbrev pub left_by_handles : Schema
left_by_handles = without_table left_by_answers 7

abbrev pub left_by_blocks : Schema
left_by_blocks = without_table left_by_handles 5

abbrev pub left_by_entries : Schema
left_by_entries = without_table left_by_blocks 2

abbrev pub left_by_nodes : Schema
left_by_nodes = without_table left_by_entries 1
