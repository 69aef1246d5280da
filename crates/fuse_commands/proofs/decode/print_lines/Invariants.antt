use Rattle.std.proofs.Common.{length}
use Rattle.fuse_commands.proofs.Decodings.{DecodedSoFar}
use Rattle.fuse_commands.proofs.decode.print_lines.Given as goal

abbrev pub invariant-loop-len : goal.invariant-loop-len
invariant-loop-len g l = DecodedSoFar (g.W.Write.contents l.fn.writer) (g.W.Write.contents l.writer) l.stream l.rest l.at

abbrev pub decreases-loop-len : goal.decreases-loop-len
decreases-loop-len g l = length l.rest
