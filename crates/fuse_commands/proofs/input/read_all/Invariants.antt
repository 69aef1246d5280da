use Rattle.std.specs.Io.KnownBytes.{Consumes}
use Rattle.fuse_commands.specs.inner.Input.{left_to}
use Rattle.fuse_commands.proofs.input.read_all.Given as goal

abbrev pub invariant-loop-input : goal.invariant-loop-input
invariant-loop-input g l = Consumes (g.R.Read.remaining l.fn.reader) (left_to g.R.Read.remaining l.pieces) l.input.items

abbrev pub decreases-loop-input : goal.decreases-loop-input
decreases-loop-input g l = l.pieces.reads_left
