use Rattle.std.specs.Prelude.{◌≡◌, take}
use Rattle.fuse_lists.proofs.plain.entries.copies_of.Given as goal

abbrev pub invariant-loop-entry : goal.invariant-loop-entry
invariant-loop-entry l = l.copies.items ≡ take l.entry-index l.entries
