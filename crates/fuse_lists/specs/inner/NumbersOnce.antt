-- A list in which each node stands once (defined by this project).
use Rattle.std.specs.Prelude.{◌==◌, ◌&&◌, Bool, true, not, List, [], ◌∷◌}
use Rattle.std.specs.List.{list_any}
use Rattle.fuse_rows.specs.declared.rows.Full.{Full}

-- no two nodes have one number
abbrev pub are_distinct : List Full → Bool
are_distinct [] = true
are_distinct (f ∷ later) = not (list_any (λ g. g.row.node == f.row.node) later) && are_distinct later
