-- The state that a mount begins with (defined by this project).
use Rattle.std.specs.Prelude.{◌≡◌, ◌-◌, ℕ, Bool, not, List, [], length, filter, Option, None}
use Rattle.std.specs.Option.{option_map}
use Rattle.std.specs.List.{sum_by}
use Rattle.fuse_rows.specs.declared.rows.Full.{Full}
use Rattle.fuse_rows.specs.declared.rows.Room.{Room}
use Rattle.fuse_tree.specs.State.{State, Tree, is_named}
use Rattle.fuse_rows.specs.Blocks.{how_many}
use Rattle.fuse_rows.specs.Rows.{Rows, row_is_named}
use Rattle.fuse_tree.specs.Rowed.{rowed}

-- handles, settings and the nodes without a name go: named nodes, entries and counters stay
abbrev pub cleared_tree : State → State
cleared_tree s = record s { nodes = filter (λ n. is_named s n.number) s.nodes; handles = []; settings = None }

abbrev pub is_named_row : Full → Bool
is_named_row f = row_is_named f.row

-- the written blocks of the nodes without a name
abbrev pub blocks_freed : List Full → ℕ
blocks_freed nodes = sum_by (λ f. how_many f.row.written) (filter (λ f. not (is_named_row f)) nodes)

-- the room when so many blocks are no longer in use
abbrev pub room_less : ℕ → Room → Room
room_less blocks room = record room { used = room.used - blocks }

abbrev pub cleared_room : List Full → Option Room → Option Room
cleared_room nodes room = option_map (room_less (blocks_freed nodes)) room

-- the same of rows
abbrev pub cleared_rows : Rows → Rows
cleared_rows rows = record {
  nodes = filter is_named_row rows.nodes;
  entries = rows.entries;
  handles = [];
  counters = record rows.counters { nodes = length (filter is_named_row rows.nodes); handles = 0; room = cleared_room rows.nodes rows.counters.room };
  settings = None;
}

-- of a tree a tree is left, and its rows are those that are left
abbrev pub Clearing : Type 0
Clearing = (s : State) → Tree s → Tree (cleared_tree s) × (rowed (cleared_tree s) ≡ cleared_rows (rowed s))
