use Rattle.std.proofs.Common.{take, map}
use Rattle.std.specs.Io.KnownBytes.{Appends}
use Rattle.fuse_sim.specs.Driving.{bytes_given}
use Rattle.fuse_commands.specs.Simulating.{outcome_lines}
use Rattle.fuse_commands.proofs.simulate.print_simulation.Given as goal

abbrev pub invariant-loop-outcome : goal.invariant-loop-outcome
invariant-loop-outcome g l =
    Appends (g.W.Write.contents l.fn.writer) (g.W.Write.contents l.writer) (outcome_lines (map bytes_given (take l.outcome-index l.outcome-items)))
