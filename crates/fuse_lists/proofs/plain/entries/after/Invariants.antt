use Rattle.std.specs.Prelude.{◌≡◌, filter, take}
use Rattle.fuse_rows.specs.Rows.{is_after}
use Rattle.fuse_lists.proofs.plain.entries.after.Given as goal

abbrev pub invariant-loop-entry : goal.invariant-loop-entry
invariant-loop-entry l = l.found.items ≡ take l.limit (filter (is_after l.dir l.cookie) (take l.entry-index l.entries))
