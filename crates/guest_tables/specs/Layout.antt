-- The tables of a guest's store, and the schema that their texts make (defined by this project; SQLite: CREATE TABLE).
use Rattle.std.specs.Prelude.{[], ◌∷◌, false, None, codes, ℕ}
use Rattle.sqlite.specs.Table.{Table}
use Rattle.sqlite.specs.Schema.{Schema}
use Rattle.sqlite.specs.Change.{created}
use Rattle.sqlite_value.specs.Keys.{plain}
use Rattle.fuse_store_tables.specs.Layout.{key, number_column, bytes_column, refers, keyed_table, with_meta}

-- the number of this layout that `meta` has
abbrev pub guest_version : ℕ
guest_version = 1

-- A value lies in its row where `place` is 0, and then `len` and `sum` are 0 too. Else it lies in the data file: a version to come will name
-- its block there, its length and its digest. The rowid is hidden.
abbrev pub pair_table : Table
pair_table = record {
  name = codes "pairs";
  tree = 1;
  columns = bytes_column (codes "key") ∷ bytes_column (codes "value") ∷ number_column (codes "place") ∷ number_column (codes "len") ∷ number_column (codes "sum") ∷ [];
  key = None;
  primary = 1 ∷ [];
  uniques = (1 ∷ []) ∷ [];
  orders = plain ∷ [];
  checks = [];
  references = [];
  computed = [];
  stamps = record { places = []; terms = []; formats = [] };
  is_counted = false;
}

-- the tree between them is that of the index of the keys
abbrev pub lot_table : Table
lot_table = keyed_table (codes "lots") 3 (key (codes "lot") ∷ []) [] [] []

abbrev pub kept_table : Table
kept_table = keyed_table (codes "kept") 4 (key (codes "id") ∷ number_column (codes "lot") ∷ number_column (codes "errno") ∷ bytes_column (codes "body")
    ∷ []) [] [] (refers 2 (codes "lots") (codes "lot") ∷ [])

abbrev pub with_pairs : Schema
with_pairs = created with_meta pair_table

abbrev pub with_lots : Schema
with_lots = created with_pairs lot_table

-- the schema of a guest's store; `meta` is made first, as in a tree's store
abbrev pub guest_schema : Schema
guest_schema = created with_lots kept_table
