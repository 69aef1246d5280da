-- The rows of a state determine it.
use Rattle.std.proofs.Common.{◌≡◌, ℕ, Option, Some, None, List, [], ◌∷◌, map, refl, sym, ap, ◌∙◌}
use Rattle.std.specs.Option.{option_map}
use Rattle.fuse_rows.specs.declared.rows.Full.{Full}
use Rattle.fuse_tree.specs.State.{State, Node, used_of}
use Rattle.fuse_tree.specs.Space.{room_of}
use Rattle.fuse_rows.specs.Rows.{Rows}
use Rattle.fuse_tree.specs.Rowed.{rowed, full_of}
use Rattle.fuse_tree.specs.Laws.{RowsTellState}
use Rattle.fuse_plan.proofs.Blocks.{room_with}

abbrev node_of : Full → Node
node_of f = record {
  number = f.row.node;
  mode = f.row.mode;
  uid = f.row.uid;
  gid = f.row.gid;
  rdev = f.row.rdev;
  atime = f.row.atime;
  mtime = f.row.mtime;
  ctime = f.row.ctime;
  content = f.content.bytes;
  blocks = f.content.blocks;
}

nodes_told : (s : State) (ns : List Node) → map node_of (map (full_of s) ns) ≡ ns
nodes_told s [] = refl
nodes_told s (n ∷ ns) = ap (λ (ms : List Node). n ∷ ms) (nodes_told s ns)

abbrev state_of : Rows → State
state_of rows = record {
  nodes = map node_of rows.nodes;
  entries = rows.entries;
  handles = rows.handles;
  settings = rows.settings;
  next_node = rows.counters.next_node;
  next_fh = rows.counters.next_fh;
  next_cookie = rows.counters.next_cookie;
  capacity = option_map (λ r. r.capacity) rows.counters.room;
}

capacity_told : (s : State) (o : Option ℕ) → option_map (λ r. r.capacity) (option_map (room_with (used_of s)) o) ≡ o
capacity_told s None = refl
capacity_told s (Some c) = refl

told : (s : State) → state_of (rowed s) ≡ s
unfolding rowed
told s =
    ap (λ (ns : List Node). record s { nodes = ns; capacity = option_map (λ r. r.capacity) (room_of s) }) (nodes_told s s.nodes)
    ∙ ap (λ (o : Option ℕ). record s { capacity = o }) (capacity_told s s.capacity)

pub rows_tell : RowsTellState
rows_tell s other same = sym (told s) ∙ ap state_of same ∙ told other
