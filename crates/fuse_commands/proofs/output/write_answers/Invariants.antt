use Rattle.std.proofs.Common.{◌≡◌, ℕ, List, length}
use Rattle.std.specs.List.{AllByRecursion}
use Rattle.fuse_request.specs.Stream.{joined}
use Rattle.fuse_commands.specs.inner.Sending.{IsAnswer}
use Rattle.fuse_commands.proofs.Lines.{Written}
use Rattle.fuse_commands.proofs.output.write_answers.Given as goal

abbrev pub invariant-loop-rest : goal.invariant-loop-rest
invariant-loop-rest g l = (answers : List (List ℕ)) → AllByRecursion IsAnswer answers → l.fn.sent ≡ joined answers
    → Written (g.W.Write.contents l.fn.writer) (g.W.Write.contents l.writer) answers l.rest

abbrev pub decreases-loop-rest : goal.decreases-loop-rest
decreases-loop-rest g l = length l.rest
