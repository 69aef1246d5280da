-- The tables of each version, and the schema that their texts make (defined by this project; SQLite: CREATE TABLE, CREATE INDEX).
use Rattle.sqlite.specs.Collation.TheVariants.{Binary}
use Rattle.std.specs.Prelude.{true, false, [], ◌∷◌, Some, None, codes, List, ℕ, Bool}
use Rattle.sqlite.specs.declared.types.Value.TheVariants.{Null}
use Rattle.sqlite.specs.Table.{Table}
use Rattle.sqlite.specs.Schema.{Schema}
use Rattle.sqlite.specs.Change.{created, indexed}
use Rattle.sqlite.specs.Kind.{Kind}
use Rattle.sqlite.specs.Kind.TheVariants.{Integer, Blob}
use Rattle.sqlite_value.specs.Keys.{plain}
use Rattle.sqlite_value.specs.declared.keys.Order.{Order}
use Rattle.sqlite_schema.specs.declared.schema.Column.{Column}
use Rattle.sqlite_schema.specs.declared.schema.Index.{Index}
use Rattle.sqlite_schema.specs.declared.schema.Reference.{Reference}
use Rattle.sqlite_schema.specs.declared.schema.Action.TheVariants.{NoAction}
use Rattle.fuse_store_tables.specs.declared.version.Layout.{Layout}
use Rattle.fuse_store_tables.specs.declared.version.Layout.TheVariants.{Second, Third}

abbrev pub strict : List ℕ → Kind → Bool → Column
strict name kind filled = record { name = name; kind = kind; is_strict = true; not_null = filled; default = Null; collation = Binary }

-- the column that is the rowid
abbrev pub key : List ℕ → Column
key name = strict name Integer false

abbrev pub number_column : List ℕ → Column
number_column name = strict name Integer true

abbrev pub bytes_column : List ℕ → Column
bytes_column name = strict name Blob true

-- the column at this place names a row of another table
abbrev pub refers : ℕ → List ℕ → List ℕ → Reference
refers place parent column = record {
  columns = place ∷ [];
  parent = parent;
  parent_columns = column ∷ [];
  on_delete = NoAction;
  on_update =
      NoAction;
  is_deferred = false;
}

abbrev pub to_nodes : ℕ → Reference
to_nodes place = refers place (codes "nodes") (codes "node")

-- a table whose first column is the rowid
abbrev pub keyed_table : List ℕ → ℕ → List Column → List (List ℕ) → List Order → List Reference → Table
keyed_table name tree columns uniques orders references = record {
  name = name;
  tree = tree;
  columns = columns;
  key = Some 0;
  primary = 0 ∷ [];
  uniques = uniques;
  orders = orders;
  checks = [];
  references = references;
  computed = [];
  stamps = record { places = []; terms = []; formats = [] };
  is_counted = false;
}

abbrev pub meta : Table
meta = keyed_table (codes "meta") 0 (key (codes "k") ∷ number_column (codes "v") ∷ []) [] [] []

abbrev pub node_table : List Column → Table
node_table more = keyed_table (codes "nodes") 1
    (key (codes "node") ∷ number_column (codes "mode") ∷ number_column (codes "uid") ∷ number_column (codes "gid") ∷ number_column (codes "rdev") ∷ number_column (codes "size")
    ∷ number_column (codes "atime") ∷ number_column (codes "atimensec")
    ∷ number_column (codes "mtime") ∷ number_column (codes "mtimensec") ∷ number_column (codes "ctime") ∷ number_column (codes "ctimensec") ∷ number_column (codes "up") ∷ number_column (codes "subdirs")
    ∷ more) [] [] []

abbrev pub nodes : Table
nodes = node_table []

-- the columns that version 3 adds
abbrev pub later_columns : List Column
later_columns = number_column (codes "links") ∷ number_column (codes "written") ∷ number_column (codes "attributes") ∷ []

abbrev pub third_nodes : Table
third_nodes = node_table later_columns

abbrev pub entry_columns : List Column
entry_columns = key (codes "cookie") ∷ number_column (codes "dir") ∷ bytes_column (codes "name") ∷ number_column (codes "child") ∷ []

abbrev pub entries : Table
entries = keyed_table (codes "entries") 2 entry_columns ((4 ∷ []) ∷ (2 ∷ 3 ∷ []) ∷ []) (plain ∷ plain ∷ []) (to_nodes 2 ∷ to_nodes 4 ∷ [])

-- A node may be the child of many entries. That its nodes are there is tested where an entry is read. The second constraint always holds,
-- since the cookie is the rowid. Its index has the entries of a directory in order. SQLite makes the indexes of constraints right after their
-- table, in VACUUM and from a dump too (VACUUM; PRIMARY KEY and UNIQUE constraints), so each tree keeps its number.
abbrev pub third_entries : Table
third_entries = keyed_table (codes "entries") 2 entry_columns ((2 ∷ 3 ∷ []) ∷ (2 ∷ 0 ∷ []) ∷ []) (plain ∷ plain ∷ []) []

-- a table whose key is its first two columns, and whose rowid is hidden
abbrev pub paired_table : List ℕ → ℕ → List Column → List Reference → Table
paired_table name tree columns references = record {
  name = name;
  tree = tree;
  columns = columns;
  key = None;
  primary = 1 ∷ 2 ∷ [];
  uniques = (1 ∷ 2 ∷ []) ∷ [];
  orders = plain ∷ [];
  checks = [];
  references = references;
  computed = [];
  stamps = record { places = []; terms = []; formats = [] };
  is_counted = false;
}

abbrev pub blocks : Table
blocks = paired_table (codes "blocks") 5 (number_column (codes "node") ∷ number_column (codes "block") ∷ bytes_column (codes "bytes") ∷ []) (to_nodes 1 ∷ [])

abbrev pub handle_table : List (List ℕ) → List Order → Table
handle_table uniques orders = keyed_table (codes "handles") 7 (key (codes "fh") ∷ number_column (codes "node") ∷ number_column (codes "access") ∷ []) uniques orders
    (to_nodes 2 ∷ [])

abbrev pub handles : Table
handles = handle_table [] []

-- The constraint always holds, since the fh is the rowid. Its index has the handles of a node.
abbrev pub third_handles : Table
third_handles = handle_table ((2 ∷ 0 ∷ []) ∷ []) (plain ∷ [])

abbrev pub answers : Table
answers = keyed_table (codes "answers") 8 (key (codes "id") ∷ number_column (codes "errno") ∷ bytes_column (codes "body") ∷ []) [] [] []

abbrev pub lots : Table
lots = keyed_table (codes "lots") 9 (key (codes "lot") ∷ []) [] [] []

abbrev pub kept : Table
kept = keyed_table (codes "kept") 10 (key (codes "id") ∷ number_column (codes "lot") ∷ number_column (codes "errno") ∷ bytes_column (codes "body")
    ∷ []) [] [] (refers 2 (codes "lots") (codes "lot") ∷ [])

-- the pieces of contents; version 3 alone has these two tables
abbrev pub pieces : Table
pieces = paired_table (codes "pieces") 11
    (number_column (codes "node") ∷ number_column (codes "first") ∷ number_column (codes "count") ∷ number_column (codes "place") ∷ number_column (codes "sum") ∷ []) []

abbrev pub xattrs : Table
xattrs = paired_table (codes "xattrs") 13 (number_column (codes "node") ∷ bytes_column (codes "name") ∷ bytes_column (codes "value") ∷ []) []

-- the entries of a directory in the order of their cookies
abbrev pub entries_in_order : Index
entries_in_order = record { name = codes "entries_in_order"; tree = 11; table = 2; columns = 2 ∷ 0 ∷ []; order = plain; is_unique = false }

abbrev pub no_schema : Schema
no_schema = record { tables = []; indexes = []; views = [] }

abbrev pub with_meta : Schema
with_meta = created no_schema meta

abbrev pub with_nodes : Schema
with_nodes = created with_meta nodes

abbrev pub with_entries : Schema
with_entries = created with_nodes entries

abbrev pub with_blocks : Schema
with_blocks = created with_entries blocks

abbrev pub with_handles : Schema
with_handles = created with_blocks handles

-- the schema of version 1
abbrev pub with_answers : Schema
with_answers = created with_handles answers

abbrev pub with_lots : Schema
with_lots = created with_answers lots

abbrev pub with_kept : Schema
with_kept = created with_lots kept

-- the schema of version 2: the index is made last
abbrev pub store_schema : Schema
store_schema = indexed with_kept entries entries_in_order

-- ---- version 3

-- the indexes of the constraints stand where version 2 has that of the children and the answers, so each table has the tree that it has there
abbrev pub third_with_nodes : Schema
third_with_nodes = created with_meta third_nodes

abbrev pub third_with_entries : Schema
third_with_entries = created third_with_nodes third_entries

abbrev pub third_with_blocks : Schema
third_with_blocks = created third_with_entries blocks

abbrev pub third_with_handles : Schema
third_with_handles = created third_with_blocks third_handles

abbrev pub third_with_lots : Schema
third_with_lots = created third_with_handles lots

abbrev pub third_with_kept : Schema
third_with_kept = created third_with_lots kept

abbrev pub third_with_pieces : Schema
third_with_pieces = created third_with_kept pieces

-- the schema of version 3
abbrev pub third_schema : Schema
third_schema = created third_with_pieces xattrs

-- ---- either

abbrev pub schema_for : Layout → Schema
schema_for Second = store_schema
schema_for Third = third_schema

-- the number that `meta` has of it
abbrev pub version_of : Layout → ℕ
version_of Second = 2
version_of Third = 3
