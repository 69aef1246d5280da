use Rattle.std.proofs.Common.{subst}
use Rattle.std.specs.Io.KnownBytes.{Appends}
use Rattle.fuse_sim.specs.Driving.{bytes_given}
use Rattle.fuse_commands.specs.Simulating.{outcome_line}
use Rattle.fuse_commands.proofs.Simulations.{printed_more}
use Rattle.fuse_commands.proofs.simulate.print_simulation.Goals as goal

pub loop-outcome-preserved : goal.loop-outcome-preserved
loop-outcome-preserved g c =
    printed_more _ (g.W.Write.contents c.loop-outcome.writer) _ c.as_slice-outcome-items.result.now c.loop-outcome.outcome-index c.outcome-item.result
    c.loop-outcome-test.true c.loop-outcome.invariant
    (subst (λ o. Appends (g.W.Write.contents c.loop-outcome.writer) (g.W.Write.contents c.write_outcome.new.writer) (outcome_line (bytes_given o)))
    c.outcome-item.is c.in_ok-write_outcome.ensures.ok)
