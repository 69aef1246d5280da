-- The rows of version 2 as they are read, and put into the tables of version 3 (defined by this project).
use Rattle.std.specs.Prelude.{◌≡◌, ◌<◌, ℕ, pos, codes, List, ◌∷◌, ◌++◌, [], map, fold}
use Rattle.sqlite.specs.declared.types.Value.TheVariants.{Int, Blob}
use Rattle.sqlite.specs.Order.{Row}
use Rattle.sqlite_trees.specs.Tree.{IsAscending}
use Rattle.fuse_rows.specs.declared.rows.NodeRow.{NodeRow}
use Rattle.fuse_rows.specs.declared.rows.EntryRow.{EntryRow}
use Rattle.fuse_rows.specs.declared.rows.HandleRow.{HandleRow}
use Rattle.fuse_rows.specs.Blocks.{how_many}
use Rattle.fuse_store_tables.specs.declared.counted_nodes.Added.{Added}
use Rattle.fuse_store_tables.specs.declared.everyday.Copies.{Copies}
use Rattle.fuse_store_tables.specs.declared.version.Layout.{Layout}
use Rattle.fuse_store_tables.specs.Making.{counters_alone}
use Rattle.fuse_store_tables.specs.Migrating.{with_written, all_written}
use Rattle.fuse_store_tables.specs.declared.copied.Copied.{Copied}
use Rattle.fuse_store_tables.specs.declared.copied.Copied.TheVariants.{Counters, Entries, Blocks, Handles, Lots, Records}
use Rattle.fuse_store_tables.specs.Blocks.{Block, block_row}
use Rattle.fuse_store_tables.specs.Content.{Content, Counter, Kept, access_code, counter_key, cookie_of, fh_of, kept_key, node_key, put_by, links_of, with_node, with_counter, set_counter}
use Rattle.sqlite.specs.Effect.{Database}
use Rattle.fuse_store_tables.specs.declared.version.Layout.TheVariants.{Second, Third}
use Rattle.fuse_store_tables.specs.inner.Columns.{shown_meta, given_node}
use Rattle.fuse_store_tables.specs.inner.Steps.{HoldsIn}

abbrev pub RowOf : Copied → Type 0
RowOf Counters = Counter
RowOf Entries = EntryRow
RowOf Blocks = Block
RowOf Handles = HandleRow
RowOf Lots = ℕ
RowOf Records = Kept

-- all columns, the rowid first
abbrev pub copy_row : (k : Copied) → RowOf k → Row
copy_row Counters x = shown_meta x
copy_row Entries x = Int (pos x.cookie) ∷ Int (pos x.dir) ∷ Blob x.name ∷ Int (pos x.child) ∷ []
copy_row Blocks x = block_row x
copy_row Handles x = Int (pos x.fh) ∷ Int (pos x.node) ∷ Int (pos (access_code x.access)) ∷ []
copy_row Lots x = Int (pos x) ∷ []
copy_row Records x = Int (pos x.id) ∷ Int (pos x.lot) ∷ Int (pos x.said.errno) ∷ Blob x.said.body ∷ []

abbrev pub rows_in : (k : Copied) → Content → List (RowOf k)
rows_in Counters c = c.counters
rows_in Entries c = c.entries
rows_in Blocks c = c.blocks
rows_in Handles c = c.handles
rows_in Lots c = c.lots
rows_in Records c = c.kept

abbrev pub put_copy : (k : Copied) → RowOf k → Content → Content
put_copy Counters x c = record c { counters = put_by counter_key x c.counters }
put_copy Entries x c = record c { entries = put_by cookie_of x c.entries }
put_copy Blocks x c = record c { blocks = put_by (λ b. b.slot) x c.blocks }
put_copy Handles x c = record c { handles = put_by fh_of x c.handles }
put_copy Lots x c = record c { lots = put_by (λ n. n) x c.lots }
put_copy Records x c = record c { kept = put_by kept_key x c.kept }

abbrev pub put_copies : (k : Copied) → List (RowOf k) → Content → Content
put_copies k xs c = fold (λ d x. put_copy k x d) c xs

abbrev pub put_nodes : List NodeRow → Content → Content
put_nodes ns c = fold (λ d n. with_node n d) c ns

-- ---- the statements

abbrev pub whole_text : Copied → List ℕ
whole_text Counters = codes "SELECT k, v FROM meta ORDER BY k"
whole_text Entries = codes "SELECT cookie, dir, name, child FROM entries ORDER BY cookie"
whole_text Blocks = codes "SELECT rowid, node, block, bytes FROM blocks ORDER BY rowid"
whole_text Handles = codes "SELECT fh, node, access FROM handles ORDER BY fh"
whole_text Lots = codes "SELECT lot FROM lots ORDER BY lot"
whole_text Records = codes "SELECT id, lot, errno, body FROM kept ORDER BY id"

abbrev pub put_text : Copied → List ℕ
put_text Counters = codes "INSERT INTO meta (k, v) VALUES (?1, ?2)"
put_text Entries = codes "INSERT INTO entries (cookie, dir, name, child) VALUES (?1, ?2, ?3, ?4)"
put_text Blocks = codes "INSERT INTO blocks (rowid, node, block, bytes) VALUES (?1, ?2, ?3, ?4)"
put_text Handles = codes "INSERT INTO handles (fh, node, access) VALUES (?1, ?2, ?3)"
put_text Lots = codes "INSERT INTO lots (lot) VALUES (?1)"
put_text Records = codes "INSERT INTO kept (id, lot, errno, body) VALUES (?1, ?2, ?3, ?4)"

-- ---- the nodes, which have more columns in version 3

-- what a row of version 3 says more of a node that has its blocks counted
abbrev pub added_of : NodeRow → Added
added_of n = record { links = pos (links_of n); written = pos (how_many n.written) }

abbrev pub nodes_text : List ℕ
nodes_text =
    codes "SELECT node, mode, uid, gid, rdev, size, atime, atimensec, mtime, mtimensec, ctime, ctimensec, up, subdirs "
    ++ codes "FROM nodes ORDER BY node"

abbrev pub count_text : List ℕ
count_text = codes "SELECT count(*) FROM blocks WHERE node = ?1"

-- ---- what a step is given, and what it makes

abbrev pub RowGiven : (k : Copied) → Row → RowOf k × Content → Database → Type 0
RowGiven k row p d = (row ≡ copy_row k p.0) × HoldsIn Third p.1 d

abbrev pub RowPut : (k : Copied) → RowOf k × Content → Database → Type 0
RowPut k p = HoldsIn Third (put_copy k p.0 p.1)

abbrev pub RowsGiven : (k : Copied) → List Row → List (RowOf k) × Content → Database → Type 0
RowsGiven k rows p d = (rows ≡ map (copy_row k) p.0) × HoldsIn Third p.1 d

abbrev pub RowsPut : (k : Copied) → List (RowOf k) × Content → Database → Type 0
RowsPut k p = HoldsIn Third (put_copies k p.0 p.1)

abbrev pub NodeGiven : Row → Added → NodeRow × Content → Database → Type 0
NodeGiven row added p d = (row ≡ given_node Second p.0) × (added ≡ added_of p.0) × HoldsIn Third p.1 d

abbrev pub NodePut : NodeRow × Content → Database → Type 0
NodePut p = HoldsIn Third (with_node p.0 p.1)

abbrev pub NodesGiven : List Row → List Added → List NodeRow × Content → Database → Type 0
NodesGiven rows added p d = (rows ≡ map (given_node Second) p.0) × (added ≡ map added_of p.0) × HoldsIn Third p.1 d

abbrev pub NodesPut : List NodeRow × Content → Database → Type 0
NodesPut p = HoldsIn Third (put_nodes p.0 p.1)

-- ---- a whole store

-- these are the rows of version 2, and what is added to its nodes
pub record IsCopyOf (s : Copies) (c : Content) : Type 0 where
  pub counters : s.counters.items ≡ map (copy_row Counters) c.counters
  pub nodes : s.nodes.items ≡ map (given_node Second) c.nodes
  pub added : s.added.items ≡ map (λ n. added_of (with_written c.blocks n)) c.nodes
  pub entries : s.entries.items ≡ map (copy_row Entries) c.entries
  pub blocks : s.blocks.items ≡ map (copy_row Blocks) c.blocks
  pub handles : s.handles.items ≡ map (copy_row Handles) c.handles
  pub lots : s.lots.items ≡ map (copy_row Lots) c.lots
  pub records : s.records.items ≡ map (copy_row Records) c.kept

abbrev pub Rises : {X : Type 0} → (X → ℕ) → List X → Type 0
Rises key = IsAscending (λ a b. key a < key b)

-- each list rises by its keys
pub record AreOrdered (c : Content) : Type 0 where
  pub counters : Rises counter_key c.counters
  pub nodes : Rises node_key c.nodes
  pub entries : Rises cookie_of c.entries
  pub blocks : Rises (λ (b : Block). b.slot) c.blocks
  pub handles : Rises fh_of c.handles
  pub lots : Rises (λ (n : ℕ). n) c.lots
  pub kept : Rises kept_key c.kept

pub record IsOrderedCopy (s : Copies) (c : Content) : Type 0 where
  pub copy : IsCopyOf s c
  pub ordered : AreOrdered c

-- the tables of a layout, all empty
abbrev pub no_rows : Layout → Content
no_rows layout = record (counters_alone layout) { counters = [] }

-- the tables of version 3, filled one after the other
abbrev pub counters_copied : Content → Content
counters_copied c = record (no_rows Third) { counters = c.counters }

abbrev pub nodes_copied : Content → Content
nodes_copied c = record (counters_copied c) { nodes = map (with_written c.blocks) c.nodes }

abbrev pub entries_copied : Content → Content
entries_copied c = record (nodes_copied c) { entries = c.entries }

abbrev pub blocks_copied : Content → Content
blocks_copied c = record (entries_copied c) { blocks = c.blocks }

abbrev pub handles_copied : Content → Content
handles_copied c = record (blocks_copied c) { handles = c.handles }

abbrev pub lots_copied : Content → Content
lots_copied c = record (handles_copied c) { lots = c.lots }

abbrev pub all_copied : Content → Content
all_copied c = record (lots_copied c) { kept = c.kept }

abbrev pub marked_third : ℕ → ℕ → Content → Content
marked_third used number c = with_counter 15 number (set_counter 14 used (set_counter 1 3 c))

-- a step whose source is known
abbrev pub Filled : Copies → (Content → Content) → Content → Database → Type 0
Filled s f c d = IsOrderedCopy s c × HoldsIn Third (f c) d

-- what was read of the tables as they are, and how many blocks were written
abbrev pub IsRead : Copies → ℕ → Content → Database → Type 0
IsRead s used c d = IsCopyOf s c × (used ≡ all_written c) × HoldsIn Second c d
