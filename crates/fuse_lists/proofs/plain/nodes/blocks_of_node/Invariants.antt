use Rattle.std.specs.Prelude.{◌≡◌, ◌==◌, find, drop}
use Rattle.fuse_lists.proofs.plain.nodes.blocks_of_node.Given as goal

abbrev pub invariant-loop-full : goal.invariant-loop-full
invariant-loop-full l = find (λ f. f.row.node == l.number) (drop l.full-index l.nodes) ≡ find (λ f. f.row.node == l.number) l.nodes
