-- The parts of the layout, as an opening compares them (defined by this project).
use Rattle.std.specs.Prelude.{[], ◌∷◌, true, codes, List}
use Rattle.sqlite_schema.specs.declared.schema.Index.{Index}
use Rattle.sqlite.specs.Table.{Table}
use Rattle.fuse_store_tables.specs.Layout.{meta}
use Rattle.fuse_store_tables.specs.inner.Shapes.{plain_index}
use Rattle.guest_tables.specs.Layout.{pair_table, lot_table, kept_table}

abbrev pub guest_indexes : List Index
guest_indexes = plain_index (codes "sqlite_autoindex_pairs_1") 2 1 (1 ∷ []) true ∷ []

abbrev pub guest_tables : List Table
guest_tables = meta ∷ pair_table ∷ lot_table ∷ kept_table ∷ []
