use Rattle.std.proofs.Common.{map}
use Rattle.fuse_answer.specs.Entries.{directory_entry_of}
use Rattle.fuse_answer.proofs.Packings.{Filled}
use Rattle.fuse_answer.proofs.packing.put_fitting.Given as goal

abbrev pub invariant-loop-taken : goal.invariant-loop-taken
invariant-loop-taken l = Filled (map directory_entry_of l.entries) l.size l.taken l.body.items
