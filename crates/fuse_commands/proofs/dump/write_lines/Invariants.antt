use Rattle.fuse_commands.specs.inner.Messages.{left_in, place_in, work_in, WentSoFar}
use Rattle.std.specs.Io.KnownBytes.{Appends}
use Rattle.fuse_commands.specs.Dumping.{dump_lines}
use Rattle.fuse_commands.proofs.dump.write_lines.Given as goal

abbrev pub invariant-loop-placed : goal.invariant-loop-placed
invariant-loop-placed g l = WentSoFar (left_in g.R.Read.remaining l.fn.messages) (left_in g.R.Read.remaining l.messages) (place_in l.messages)
    (λ ms. Appends (g.W.Write.contents l.fn.writer) (g.W.Write.contents l.writer) (dump_lines 0 ms))

abbrev pub decreases-loop-placed : goal.decreases-loop-placed
decreases-loop-placed g l = work_in l.messages
