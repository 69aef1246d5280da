-- A state in which one node has changed (defined by this project).
use Rattle.std.specs.Prelude.{◌==◌, ℕ, if◌then◌else◌, map}
use Rattle.fuse_tree.specs.State.{State, Node}

-- where the node has this number, it is changed
abbrev pub changed_at : ℕ → (Node → Node) → Node → Node
changed_at number change n = if n.number == number then change n else n

-- the state with this node changed
abbrev pub with_changed : ℕ → (Node → Node) → State → State
with_changed number change s = record s { nodes = map (changed_at number change) s.nodes }
