-- The parts of the layout, as an opening compares them (defined by this project).
use Rattle.std.specs.Prelude.{[], ◌∷◌, true, false, codes, List, ℕ, Bool}
use Rattle.sqlite_value.specs.Keys.{plain}
use Rattle.sqlite_schema.specs.declared.schema.Column.{Column}
use Rattle.sqlite_schema.specs.declared.schema.Index.{Index}
use Rattle.sqlite.specs.Table.{Table}
use Rattle.fuse_store_tables.specs.Layout.{number_column, meta, nodes, entries, blocks, handles, answers, lots, kept}
use Rattle.fuse_store_tables.specs.Layout.{third_nodes, third_entries, third_handles, pieces, xattrs}

-- the columns of a node from its times on, before those of version 3
abbrev pub node_times : List Column → List Column
node_times more =
    number_column (codes "atime") ∷ number_column (codes "atimensec") ∷ number_column (codes "mtime") ∷ number_column (codes "mtimensec") ∷ number_column (codes "ctime") ∷ number_column (codes "ctimensec")
    ∷ number_column (codes "up") ∷ number_column (codes "subdirs") ∷ more

abbrev pub plain_index : List ℕ → ℕ → ℕ → List ℕ → Bool → Index
plain_index name tree table places unique = record { name = name; tree = tree; table = table; columns = places; order = plain; is_unique = unique }

-- the indexes of keys
abbrev pub first_indexes : List Index
first_indexes =
    plain_index (codes "sqlite_autoindex_entries_1") 3 2 (4 ∷ []) true ∷ plain_index (codes "sqlite_autoindex_entries_2") 4 2 (2 ∷ 3 ∷ []) true
    ∷ plain_index (codes "sqlite_autoindex_blocks_1") 6 5 (1 ∷ 2 ∷ []) true ∷ []

-- the last of them, and that of the entries in order
abbrev pub last_indexes : List Index
last_indexes =
    plain_index (codes "sqlite_autoindex_blocks_1") 6 5 (1 ∷ 2 ∷ []) true ∷ plain_index (codes "entries_in_order") 11 2 (2 ∷ 0 ∷ []) false ∷ []

abbrev pub all_indexes : List Index
all_indexes =
    plain_index (codes "sqlite_autoindex_entries_1") 3 2 (4 ∷ []) true ∷ plain_index (codes "sqlite_autoindex_entries_2") 4 2 (2 ∷ 3 ∷ []) true ∷ last_indexes

abbrev pub first_tables : List Table
first_tables = meta ∷ nodes ∷ entries ∷ blocks ∷ handles ∷ answers ∷ []

abbrev pub all_tables : List Table
all_tables = meta ∷ nodes ∷ entries ∷ blocks ∷ handles ∷ answers ∷ lots ∷ kept ∷ []

-- ---- version 3

-- those of the tables that it adds
abbrev pub paired_indexes : List Index
paired_indexes =
    plain_index (codes "sqlite_autoindex_pieces_1") 12 11 (1 ∷ 2 ∷ []) true ∷ plain_index (codes "sqlite_autoindex_xattrs_1") 14 13 (1 ∷ 2 ∷ []) true ∷ []

-- the last four of its indexes
abbrev pub last_third_indexes : List Index
last_third_indexes =
    plain_index (codes "sqlite_autoindex_blocks_1") 6 5 (1 ∷ 2 ∷ []) true ∷ plain_index (codes "sqlite_autoindex_handles_1") 8 7 (2 ∷ 0 ∷ []) true ∷ paired_indexes

abbrev pub third_indexes : List Index
third_indexes =
    plain_index (codes "sqlite_autoindex_entries_1") 3 2 (2 ∷ 3 ∷ []) true ∷ plain_index (codes "sqlite_autoindex_entries_2") 4 2 (2 ∷ 0 ∷ []) true
    ∷ last_third_indexes

abbrev pub third_tables : List Table
third_tables = meta ∷ third_nodes ∷ third_entries ∷ blocks ∷ third_handles ∷ lots ∷ kept ∷ pieces ∷ xattrs ∷ []
