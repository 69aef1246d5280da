-- The rows of a store, the looks at them, and the effect of a change (defined by this project).
use Rattle.std.specs.Prelude.{◌+◌, ◌-◌, ◌==◌, ◌&&◌, ◌||◌, ℕ, Bool, not, nat_lt, if◌then◌else◌, List, [], ◌∷◌, ◌++◌, length, map, find, filter, take, drop, replicate, Option, Some, None, nat_eq}
use Rattle.std.specs.Option.{option_map}
use Rattle.std.specs.List.{list_any}
use Rattle.fuse_init.specs.declared.settings.Settings.{Settings}
use Rattle.fuse_init.specs.declared.profile.Profile.{Profile}
use Rattle.fuse_init.specs.Profile.{Terms, terms}
use Rattle.fuse_rows.specs.Bounds.{fuse_root_id}
use Rattle.fuse_rows.specs.Blocks.{Body, with_touched, below_size, count_between, listed_blocks}
use Rattle.fuse_rows.specs.declared.rows.NodeRow.{NodeRow}
use Rattle.fuse_rows.specs.declared.rows.Full.{Full}
use Rattle.fuse_rows.specs.declared.rows.EntryRow.{EntryRow}
use Rattle.fuse_rows.specs.declared.rows.HandleRow.{HandleRow}
use Rattle.fuse_rows.specs.declared.rows.Child.{Child}
use Rattle.fuse_rows.specs.declared.rows.Counters.{Counters as CountersRow}
use Rattle.fuse_rows.specs.declared.rows.Change.{Change}
use Rattle.fuse_rows.specs.declared.rows.Change.TheVariants as changes
use Rattle.std.specs.Cmp.Lexicographic.{pointwise}
use Rattle.fuse_init.specs.declared.profile.Profile.TheVariants.{Plain, Everyday}

-- all that a store holds of a tree, wherever it keeps it
pub record Rows : Type 0 where
  pub nodes : List Full
  pub entries : List EntryRow
  pub handles : List HandleRow
  pub counters : CountersRow
  pub settings : Option Settings

-- the row is that of a named node
abbrev pub row_is_named : NodeRow → Bool
row_is_named row = (row.node == fuse_root_id) || not (row.up == 0)

-- ---- looks

-- the profile of a store: an everyday one has a capacity
abbrev pub profile_for : {A : Type 0} → Option A → Profile
profile_for None = Plain
profile_for (Some x) = Everyday

-- the profile of the store
abbrev pub profile_at : Rows → Profile
profile_at rows = profile_for rows.counters.room

abbrev pub terms_at : Rows → Terms
terms_at rows = terms (profile_at rows)

-- the node of this number
abbrev pub full_at : Rows → ℕ → Option Full
full_at rows number = find (λ f. f.row.node == number) rows.nodes

abbrev pub row_at : Rows → ℕ → Option NodeRow
row_at rows number = option_map (λ f. f.row) (full_at rows number)

-- the entry stands in this directory under this name
abbrev pub is_entry : ℕ → List ℕ → EntryRow → Bool
is_entry dir name e = (e.dir == dir) && pointwise nat_eq e.name name

-- the entry of this name in the directory
abbrev pub entry_at : List EntryRow → ℕ → List ℕ → Option EntryRow
entry_at entries dir name = find (is_entry dir name) entries

abbrev pub is_after : ℕ → ℕ → EntryRow → Bool
is_after dir cookie e = (e.dir == dir) && nat_lt cookie e.cookie

-- the entries of the directory with a higher cookie, at most so many
abbrev pub entries_after : Rows → ℕ → ℕ → ℕ → List EntryRow
entries_after rows dir cookie limit = take limit (filter (is_after dir cookie) rows.entries)

-- an entry, with the row of the node that it leads to
abbrev pub with_child : Rows → EntryRow → Child
with_child rows e = record { entry = e; row = row_at rows e.child }

-- the same entries, each with that row
abbrev pub children_after : Rows → ℕ → ℕ → ℕ → List Child
children_after rows dir cookie limit = map (with_child rows) (entries_after rows dir cookie limit)

-- the handle of this number
abbrev pub handle_at : List HandleRow → ℕ → Option HandleRow
handle_at handles fh = find (λ h. h.fh == fh) handles

-- the handles of the node, at most so many
abbrev pub handles_of : List HandleRow → ℕ → ℕ → List HandleRow
handles_of handles number limit = take limit (filter (λ h. h.node == number) handles)

abbrev pub content_of : Option Full → List ℕ
content_of None = []
content_of (Some f) = f.content.bytes

-- the bytes of the node from the offset on, at most so many
abbrev pub bytes_at : Rows → ℕ → ℕ → ℕ → List ℕ
bytes_at rows number offset len = take len (drop offset (content_of (full_at rows number)))

abbrev pub written_blocks_of : Option Full → List ℕ
written_blocks_of None = []
written_blocks_of (Some f) = listed_blocks f.content.blocks

-- how many blocks of the node were written from one on, below another
abbrev pub blocks_between : Rows → ℕ → ℕ → ℕ → ℕ
blocks_between rows number from to = count_between from to (written_blocks_of (full_at rows number))

-- ---- changes

-- the content of a new node with so many written blocks: none, where they are counted
abbrev pub new_body : Option ℕ → Body
new_body written = record { bytes = []; blocks = option_map (λ _. []) written }

abbrev pub with_row : NodeRow → Full → Full
with_row row f = if f.row.node == row.node then record f { row = row } else f

-- a node's row, in place of the one with its number, or else after the others
abbrev pub put_node : NodeRow → List Full → List Full
put_node row nodes =
    if list_any (λ f. f.row.node == row.node) nodes then map (with_row row) nodes
    else nodes ++ record { row = row; content = new_body row.written } ∷ []

-- cut to this length, or filled up with zero bytes
abbrev pub sized : ℕ → List ℕ → List ℕ
sized size content = take size content ++ replicate (size - length content) 0

-- the bytes at their place, and zero bytes before them where the content was shorter
abbrev pub written : ℕ → List ℕ → List ℕ → List ℕ
written offset bytes content = sized offset content ++ bytes ++ drop (offset + length bytes) content

-- the same of a content: the blocks that the bytes touch are written
abbrev pub body_written : ℕ → List ℕ → Body → Body
body_written offset bytes b = record { bytes = written offset bytes b.bytes; blocks = option_map (with_touched offset (length bytes)) b.blocks }

-- a content of this size: it has no written block above it
abbrev pub body_sized : ℕ → Body → Body
body_sized size b = record { bytes = sized size b.bytes; blocks = option_map (below_size size) b.blocks }

-- the content of this node, changed
abbrev pub at_node : ℕ → (Body → Body) → Full → Full
at_node number change f = if f.row.node == number then record f { content = change f.content } else f

-- one change
abbrev pub apply_one : Rows → Change → Rows
apply_one rows (changes.Node row) = record rows { nodes = put_node row rows.nodes }
apply_one rows (changes.NodeGone node) = record rows { nodes = filter (λ f. not (f.row.node == node)) rows.nodes }
apply_one rows (changes.Entry entry) = record rows { entries = rows.entries ++ entry ∷ [] }
apply_one rows (changes.EntryGone cookie) = record rows { entries = filter (λ e. not (e.cookie == cookie)) rows.entries }
apply_one rows (changes.Handle handle) = record rows { handles = rows.handles ++ handle ∷ [] }
apply_one rows (changes.HandleGone fh) = record rows { handles = filter (λ h. not (h.fh == fh)) rows.handles }
apply_one rows (changes.Written node offset bytes) = record rows { nodes = map (at_node node (body_written offset bytes)) rows.nodes }
apply_one rows (changes.Sized node size) = record rows { nodes = map (at_node node (body_sized size)) rows.nodes }
apply_one rows (changes.Counters counters) = record rows { counters = counters }
apply_one rows (changes.Settings settings) = record rows { settings = Some settings }

-- the changes, one after the other
abbrev pub apply : Rows → List Change → Rows
apply rows [] = rows
apply rows (change ∷ later) = apply (apply_one rows change) later
