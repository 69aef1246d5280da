-- The removal of nodes (defined by this project): where the profile removes nodes, one that has neither a name nor an fh
-- goes with its content.
use Rattle.std.specs.Prelude.{if◌then◌else◌, filter}
use Rattle.fuse_tree.specs.State.{State, terms_of, is_kept}

-- the state without such nodes
abbrev pub swept : State → State
swept s = record s { nodes = filter (λ n. is_kept s n.number) s.nodes }

-- what is left by a request that takes a name or an fh from a node
abbrev pub tidied : State → State
tidied s = if (terms_of s).removes then swept s else s
