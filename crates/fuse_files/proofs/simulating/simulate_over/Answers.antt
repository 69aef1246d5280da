use Rattle.std.proofs.Common.{Some}
use Rattle.fuse_files.proofs.InMemory.{of_known}
use Rattle.fuse_files.proofs.simulating.simulate_over.Goals as goal

pub returns-clause-ran : goal.returns-clause-ran
returns-clause-ran g c = record {
  keeper' = c.run_simulate.new.keeper;
  simulated = λ low script is. of_known _ _ c.run_simulate.ensures.simulated script is low;
  going = c.run_simulate.ensures.left;
  stopped = λ three script is. of_known _ _ c.run_simulate.ensures.store script is three;
  kept = c.run_simulate.ensures.kept;
  emptied = λ script is. of_known _ _ c.run_simulate.ensures.emptied script is;
}
