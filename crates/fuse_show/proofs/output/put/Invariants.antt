use Rattle.std.proofs.Common.{◌≡◌, ◌++◌, length}
use Rattle.fuse_show.proofs.Sinking.{Took}
use Rattle.fuse_show.proofs.output.put.Given as goal

abbrev pub invariant-loop-rest : goal.invariant-loop-rest
invariant-loop-rest g l = Took g.W.Sink.was_written l.fn.writer l.writer (λ bytes. l.text ≡ bytes ++ l.rest)

abbrev pub decreases-loop-rest : goal.decreases-loop-rest
decreases-loop-rest g l = length l.rest
