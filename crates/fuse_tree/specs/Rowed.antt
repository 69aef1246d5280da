-- The rows that stand for a state (defined by this project).
use Rattle.std.specs.Prelude.{◌≡◌, length, map}
use Rattle.std.specs.Option.{option_map}
use Rattle.fuse_rows.specs.Blocks.{Body}
use Rattle.fuse_rows.specs.declared.rows.NodeRow.{NodeRow}
use Rattle.fuse_rows.specs.declared.rows.Full.{Full}
use Rattle.fuse_rows.specs.declared.rows.Counters.{Counters as CountersRow}
use Rattle.fuse_tree.specs.State.{State, Node, Tree, up_of, subdirs_of}
use Rattle.fuse_tree.specs.Space.{room_of}
use Rattle.fuse_rows.specs.Rows.{Rows}

-- a node's row: its size, its written blocks, the directory above and the directories in it are counted
abbrev pub row_of : State → Node → NodeRow
row_of s n = record {
  node = n.number;
  mode = n.mode;
  uid = n.uid;
  gid = n.gid;
  rdev = n.rdev;
  size = length n.content;
  atime = n.atime;
  mtime = n.mtime;
  ctime = n.ctime;
  up = up_of s.entries n.number;
  subdirs = subdirs_of s n.number;
  written = option_map length n.blocks;
}

abbrev pub body_of_node : Node → Body
body_of_node n = record { bytes = n.content; blocks = n.blocks }

abbrev pub full_of : State → Node → Full
full_of s n = record { row = row_of s n; content = body_of_node n }

abbrev pub counters_of : State → CountersRow
counters_of s = record {
  next_node = s.next_node;
  next_fh = s.next_fh;
  next_cookie = s.next_cookie;
  nodes = length s.nodes;
  handles = length s.handles;
  room = room_of s;
}

-- the rows that stand for a state
abbrev pub rows_of_state : State → Rows
rows_of_state s = record { nodes = map (full_of s) s.nodes; entries = s.entries; handles = s.handles; counters = counters_of s; settings = s.settings }

-- the same, as a name that stays closed
unfoldable pub rowed : State → Rows
rowed s = rows_of_state s

-- the rows are those of a tree
unfoldable pub IsRowed : Rows → Type 0
IsRowed rows = (s : State) × Tree s × (rows ≡ rowed s)
