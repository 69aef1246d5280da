use Rattle.std.specs.Prelude.{◌≡◌, take}
use Rattle.fuse_lists.proofs.plain.nodes.copies_of.Given as goal

abbrev pub invariant-loop-full : goal.invariant-loop-full
invariant-loop-full l = l.copies.items ≡ take l.full-index l.nodes
