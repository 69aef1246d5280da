use Rattle.std.specs.Prelude.{◌≡◌, find, drop}
use Rattle.fuse_rows.specs.Rows.{is_entry}
use Rattle.fuse_lists.proofs.plain.entries.found.Given as goal

abbrev pub invariant-loop-entry : goal.invariant-loop-entry
invariant-loop-entry l = find (is_entry l.dir l.name) (drop l.entry-index l.entries) ≡ find (is_entry l.dir l.name) l.entries
