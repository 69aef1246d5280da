-- The content of the tables, as lists of typed rows (defined by this project).
use Rattle.std.specs.Prelude.{◌≡◌, ◌<◌, ◌^◌, ◌/◌, ◌%◌, ◌==◌, ◌||◌, ℕ, pos, Bool, not, ◌&&◌, List, [], ◌∷◌, ◌++◌, map, filter, find, if◌then◌else◌, unwrap_or, option_map}
use Rattle.std.specs.Prelude.{Option, Some, None, IsSome}
use Rattle.std.specs.Option.{is_some}
use Rattle.std.specs.Ordering.{is_eq, is_gt, nat_cmp, match_ordering}
use Rattle.std.specs.Cmp.Lexicographic.{slice_cmp}
use Rattle.std.specs.List.{AllByRecursion}
use Rattle.std.specs.Int.{w64, cast_signed}
use Rattle.sqlite.specs.declared.types.Value.TheVariants.{Null, Int, Blob}
use Rattle.sqlite.specs.Order.{Row}
use Rattle.sqlite.specs.Tree.{Trees}
use Rattle.sqlite_trees.specs.Tree.{IsTable, with_tree, no_trees}
use Rattle.sqlite.specs.Effect.{Database, IsDatabase}
use Rattle.sqlite.specs.Schema.{Schema}
use Rattle.sqlite.specs.Table.{Table}
use Rattle.fuse_wire.specs.declared.moment.Moment.{Moment}
use Rattle.fuse_wire.specs.declared.access_mode.AccessMode.{AccessMode}
use Rattle.fuse_wire.specs.declared.access_mode.AccessMode.TheVariants.{ReadOnly, WriteOnly, ReadWrite}
use Rattle.fuse_answer.specs.Said.{Said}
use Rattle.fuse_rows.specs.declared.rows.NodeRow.{NodeRow}
use Rattle.fuse_rows.specs.declared.rows.EntryRow.{EntryRow}
use Rattle.fuse_rows.specs.declared.rows.HandleRow.{HandleRow}
use Rattle.fuse_rows.specs.Blocks.{how_many}
use Rattle.fuse_store_tables.specs.declared.version.Layout.{Layout}
use Rattle.fuse_store_tables.specs.declared.version.Layout.TheVariants.{Second, Third}
use Rattle.fuse_store_tables.specs.Layout.{schema_for}
use Rattle.fuse_store_tables.specs.Blocks.{Block, block_row, is_from, block_at, new_block, set_at}
use Rattle.fuse_store_tables.specs.Pieces.{Piece, piece_row, new_piece, begins_between}
use Rattle.fuse_store_tables.specs.declared.pieces.PieceRow.{PieceRow}

pub record Counter : Type 0 where
  pub key : ℕ
  pub value : ℕ

-- a record of the first layout
pub record Answer : Type 0 where
  pub id : ℕ
  pub said : Said

-- a record, and its lot
pub record Kept : Type 0 where
  pub id : ℕ
  pub lot : ℕ
  pub said : Said

-- an extended attribute of a node; the slot is the hidden rowid
pub record Attribute : Type 0 where
  pub slot : ℕ
  pub node : ℕ
  pub name : List ℕ
  pub value : List ℕ

-- In rising order of their keys, and the blocks, pieces and attributes in that of their hidden rowids. Version 2 has no tables of pieces
-- and attributes, and version 3 has none of answers.
pub record Content : Type 0 where
  pub layout : Layout
  pub counters : List Counter
  pub nodes : List NodeRow
  pub entries : List EntryRow
  pub blocks : List Block
  pub handles : List HandleRow
  pub answers : List Answer
  pub lots : List ℕ
  pub kept : List Kept
  pub pieces : List Piece
  pub attributes : List Attribute

-- ---- a row as it is stored, which keeps its key as the rowid

abbrev pub counter_row : Counter → Row
counter_row c = Int (pos c.key) ∷ Null ∷ Int (pos c.value) ∷ []

-- a directory, by its type
abbrev pub is_directory : NodeRow → Bool
is_directory n = n.mode / 4096 % 16 == 4

-- the entries that lead to a node which is no directory
abbrev pub links_of : NodeRow → ℕ
links_of n = if is_directory n || n.up == 0 then 0 else 1

-- the number of entries, of written blocks, and of extended attributes, of which there are none yet
abbrev pub later_values : Layout → NodeRow → Row
later_values Second n = []
later_values Third n = Int (pos (links_of n)) ∷ Int (pos (how_many n.written)) ∷ Int (pos 0) ∷ []

-- the seconds of a time are the signed number with the same bits
abbrev pub node_columns : Layout → NodeRow → Row
node_columns layout n =
    Int (pos n.mode) ∷ Int (pos n.uid) ∷ Int (pos n.gid) ∷ Int (pos n.rdev) ∷ Int (pos n.size) ∷ Int (cast_signed w64 n.atime.secs) ∷ Int (pos n.atime.nanos)
    ∷ Int (cast_signed w64 n.mtime.secs)
    ∷ Int (pos n.mtime.nanos) ∷ Int (cast_signed w64 n.ctime.secs) ∷ Int (pos n.ctime.nanos) ∷ Int (pos n.up) ∷ Int (pos n.subdirs) ∷ later_values layout n

abbrev pub node_row : Layout → NodeRow → Row
node_row layout n = Int (pos n.node) ∷ Null ∷ node_columns layout n

-- its written blocks are counted in version 3 alone
abbrev pub HasCount : Layout → NodeRow → Type 0
HasCount Second n = n.written ≡ None
HasCount Third n = IsSome n.written

-- a time whose seconds are of 64 bits, and its nanoseconds of 32
pub record IsTime (t : Moment) : Type 0 where
  pub secs : t.secs < 2 ^ 64
  pub nanos : t.nanos < 2 ^ 32

-- its other columns are of 32 bits, but for the size and the directory above
pub record HasWidths (n : NodeRow) : Type 0 where
  pub mode : n.mode < 2 ^ 32
  pub uid : n.uid < 2 ^ 32
  pub gid : n.gid < 2 ^ 32
  pub rdev : n.rdev < 2 ^ 32
  pub atime : IsTime n.atime
  pub mtime : IsTime n.mtime
  pub ctime : IsTime n.ctime
  pub subdirs : n.subdirs < 2 ^ 32

abbrev pub entry_row : EntryRow → Row
entry_row e = Int (pos e.cookie) ∷ Null ∷ Int (pos e.dir) ∷ Blob e.name ∷ Int (pos e.child) ∷ []

abbrev pub access_code : AccessMode → ℕ
access_code ReadOnly = 0
access_code WriteOnly = 1
access_code ReadWrite = 2

abbrev pub handle_row : HandleRow → Row
handle_row h = Int (pos h.fh) ∷ Null ∷ Int (pos h.node) ∷ Int (pos (access_code h.access)) ∷ []

abbrev pub answer_row : Answer → Row
answer_row a = Int (pos a.id) ∷ Null ∷ Int (pos a.said.errno) ∷ Blob a.said.body ∷ []

abbrev pub lot_row : ℕ → Row
lot_row lot = Int (pos lot) ∷ Null ∷ []

abbrev pub kept_row : Kept → Row
kept_row k = Int (pos k.id) ∷ Null ∷ Int (pos k.lot) ∷ Int (pos k.said.errno) ∷ Blob k.said.body ∷ []

abbrev pub attribute_row : Attribute → Row
attribute_row a = Int (pos a.slot) ∷ Int (pos a.node) ∷ Blob a.name ∷ Blob a.value ∷ []

-- the rows of each tree of a table
abbrev pub stored : Content → Trees
stored c = with_tree (with_tree (with_tree (with_tree (with_tree (with_tree (with_tree (with_tree (with_tree (with_tree no_trees
    0 (map counter_row c.counters)) 1 (map (node_row c.layout) c.nodes)) 2 (map entry_row c.entries)) 5 (map block_row c.blocks))
    7 (map handle_row c.handles)) 8 (map answer_row c.answers)) 9 (map lot_row c.lots)) 10 (map kept_row c.kept))
    11 (map piece_row c.pieces)) 13 (map attribute_row c.attributes)

-- the table has these rows, which rise
abbrev pub HasRows : Trees → Trees → Table → Type 0
HasRows rows trees t = (trees t.tree ≡ rows t.tree) × IsTable (trees t.tree)

-- each table of the schema has these rows
pub record HoldsAs (layout : Schema) (held : Trees) (d : Database) : Type 0 where
  pub schema : d.schema ≡ layout
  pub sound : IsDatabase d
  pub rows : AllByRecursion (HasRows held d.trees) layout.tables

abbrev pub Holds : Content → Database → Type 0
Holds c = HoldsAs (schema_for c.layout) (stored c)

-- the tables of this layout
abbrev pub HoldsIn : Layout → Content → Database → Type 0
HoldsIn layout c d = Holds c d × (c.layout ≡ layout)

-- the trees of a database that is so
abbrev pub LeftAs : (Database → Type 0) → Trees → Type 0
LeftAs P trees = (d : Database) × P d × (d.trees ≡ trees)

-- the rows with this one in its place
abbrev pub put_by : {X : Type 0} → (X → ℕ) → X → List X → List X
put_by key new [] = new ∷ []
put_by key new (x ∷ xs) = match_ordering (nat_cmp (key x) (key new)) (x ∷ put_by key new xs) (new ∷ xs) (new ∷ x ∷ xs)

-- the row of this number
abbrev pub has_by : {X : Type 0} → (X → ℕ) → ℕ → X → Bool
has_by key k x = is_eq (nat_cmp (key x) k)

abbrev pub at_by : {X : Type 0} → (X → ℕ) → ℕ → List X → Option X
at_by key k = find (has_by key k)

abbrev pub without_by : {X : Type 0} → (X → ℕ) → ℕ → List X → List X
without_by key k = filter (λ x. not (has_by key k x))

-- the row of this number, changed
abbrev pub set_by : {X : Type 0} → (X → ℕ) → ℕ → (X → X) → List X → List X
set_by key k f = map (λ x. if has_by key k x then f x else x)

-- ---- keys

abbrev pub counter_key : Counter → ℕ
counter_key c = c.key

abbrev pub node_key : NodeRow → ℕ
node_key n = n.node

abbrev pub cookie_of : EntryRow → ℕ
cookie_of e = e.cookie

abbrev pub fh_of : HandleRow → ℕ
fh_of h = h.fh

abbrev pub kept_key : Kept → ℕ
kept_key k = k.id

-- ---- steps

abbrev pub with_node : NodeRow → Content → Content
with_node n c = record c { nodes = put_by node_key n c.nodes }

abbrev pub renumbered : NodeRow → NodeRow → NodeRow
renumbered n x = record n { node = x.node }

abbrev pub set_node : NodeRow → Content → Content
set_node n c = record c { nodes = set_by node_key n.node (renumbered n) c.nodes }

abbrev pub without_node : ℕ → Content → Content
without_node node c = record c { nodes = without_by node_key node c.nodes }

-- a node without a name, other than the root
abbrev pub is_unnamed : NodeRow → Bool
is_unnamed n = is_eq (nat_cmp n.up 0) && is_gt (nat_cmp n.node 1)

abbrev pub with_entry : EntryRow → Content → Content
with_entry e c = record c { entries = put_by cookie_of e c.entries }

abbrev pub with_entry_gone : ℕ → Content → Content
with_entry_gone cookie c = record c { entries = without_by cookie_of cookie c.entries }

abbrev pub with_handle : HandleRow → Content → Content
with_handle h c = record c { handles = put_by fh_of h c.handles }

abbrev pub without_handle : ℕ → Content → Content
without_handle fh c = record c { handles = without_by fh_of fh c.handles }

abbrev pub with_lot : ℕ → Content → Content
with_lot lot c = record c { lots = put_by (λ n. n) lot c.lots }

abbrev pub put_kept : Kept → Content → Content
put_kept k c = record c { kept = put_by kept_key k c.kept }

abbrev pub without_kept : ℕ → Content → Content
without_kept id c = record c { kept = without_by kept_key id c.kept }

abbrev pub without_four : ℕ → ℕ → ℕ → ℕ → Content → Content
without_four first second third last c = without_kept last (without_kept third (without_kept second (without_kept first c)))

abbrev pub with_counter : ℕ → ℕ → Content → Content
with_counter key value c = record c { counters = put_by counter_key (record { key = key; value = value }) c.counters }

abbrev pub valued : ℕ → Counter → Counter
valued value c = record c { value = value }

abbrev pub set_counter : ℕ → ℕ → Content → Content
set_counter key value c = record c { counters = set_by counter_key key (valued value) c.counters }

-- the value of this key, 0 where there is no such key
abbrev pub value_at : ℕ → Content → ℕ
value_at key c = unwrap_or (option_map (λ x. x.value) (at_by counter_key key c.counters)) 0

-- ---- what queries show

abbrev pub shown_counter : Counter → Row
shown_counter c = Int (pos c.value) ∷ []

abbrev pub shown_entry : EntryRow → Row
shown_entry e = Int (pos e.cookie) ∷ Blob e.name ∷ Int (pos e.child) ∷ []

abbrev pub later_nulls : Layout → Row
later_nulls Second = []
later_nulls Third = Null ∷ Null ∷ Null ∷ []

-- the columns of a node, each NULL where there is none
abbrev pub columns_of : Layout → Option NodeRow → Row
columns_of layout None = Null ∷ Null ∷ Null ∷ Null ∷ Null ∷ Null ∷ Null ∷ Null ∷ Null ∷ Null ∷ Null ∷ Null ∷ Null ∷ later_nulls layout
columns_of layout (Some n) = node_columns layout n

-- an entry, after the columns of the node that it leads to
abbrev pub shown_child : Content → EntryRow → Row
shown_child c e = columns_of c.layout (at_by node_key e.child c.nodes) ++ shown_entry e

abbrev pub shown_place : EntryRow → Row
shown_place e = Int (pos e.cookie) ∷ Int (pos e.child) ∷ []

abbrev pub shown_handle : HandleRow → Row
shown_handle h = Int (pos h.node) ∷ Int (pos (access_code h.access)) ∷ []

-- a handle, to one who knows its node
abbrev pub shown_open : HandleRow → Row
shown_open h = Int (pos h.fh) ∷ Int (pos (access_code h.access)) ∷ []

abbrev pub shown_kept : Kept → Row
shown_kept k = Int (pos k.said.errno) ∷ Blob k.said.body ∷ []

-- an entry of this name, by the order of names
abbrev pub has_name : ℕ → List ℕ → EntryRow → Bool
has_name dir name e = is_eq (nat_cmp e.dir dir) && is_eq (slice_cmp nat_cmp e.name name)

abbrev pub stands_after : ℕ → ℕ → EntryRow → Bool
stands_after dir cookie e = is_eq (nat_cmp e.dir dir) && is_gt (nat_cmp e.cookie cookie)

abbrev pub is_handle_of : ℕ → HandleRow → Bool
is_handle_of node h = is_eq (nat_cmp h.node node)

-- ---- blocks

abbrev pub with_block : ℕ → ℕ → List ℕ → Content → Content
with_block node block bytes c = record c { blocks = put_by (λ b. b.slot) (new_block node block bytes c.blocks) c.blocks }

abbrev pub set_block : ℕ → ℕ → List ℕ → Content → Content
set_block node block bytes c = record c { blocks = set_at node block bytes c.blocks }

-- in place of the bytes before, or as a new block
abbrev pub put_at : ℕ → ℕ → List ℕ → List Block → List Block
put_at node block bytes bs =
    if is_some (block_at node block bs) then set_at node block bytes bs else put_by (λ b. b.slot) (new_block node block bytes bs) bs

abbrev pub put_block : ℕ → ℕ → List ℕ → Content → Content
put_block node block bytes c = record c { blocks = put_at node block bytes c.blocks }

abbrev pub without_blocks_from : ℕ → ℕ → Content → Content
without_blocks_from node from c = record c { blocks = filter (λ b. not (is_from node from b)) c.blocks }

-- ---- pieces

abbrev pub with_piece : PieceRow → Content → Content
with_piece x c = record c { pieces = put_by (λ p. p.slot) (new_piece x c.pieces) c.pieces }

-- without those of a node that begin from one block on, below another
abbrev pub without_pieces_between : ℕ → ℕ → ℕ → Content → Content
without_pieces_between node from to c = record c { pieces = filter (λ p. not (begins_between node from to p)) c.pieces }

abbrev pub is_piece_of : ℕ → Piece → Bool
is_piece_of node p = is_eq (nat_cmp p.node node)

abbrev pub without_pieces : ℕ → Content → Content
without_pieces node c = record c { pieces = filter (λ p. not (is_piece_of node p)) c.pieces }
