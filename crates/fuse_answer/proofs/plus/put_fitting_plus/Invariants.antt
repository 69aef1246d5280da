use Rattle.std.proofs.Common.{map}
use Rattle.fuse_answer.specs.PlusEntries.{plus_of}
use Rattle.fuse_answer.proofs.PlusPackings.{FilledPlus}
use Rattle.fuse_answer.proofs.plus.put_fitting_plus.Given as goal

abbrev pub invariant-loop-taken : goal.invariant-loop-taken
invariant-loop-taken l = FilledPlus (map plus_of l.entries) l.size l.taken l.body.items
