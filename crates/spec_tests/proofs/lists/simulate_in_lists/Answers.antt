use Rattle.std.proofs.Common.{Some}
use Rattle.spec_tests.proofs.InLists.{simulated, reused}
use Rattle.spec_tests.proofs.lists.simulate_in_lists.Goals as goal

pub returns-clause-simulated : goal.returns-clause-simulated
returns-clause-simulated g c =
    simulated _ _ _ (Some c.in-Ok.keeper) c.run_simulate.new.keeper _ _ _ _ c.in-Ok.ensures.stands c.run_simulate.ensures.left
    c.run_simulate.ensures.silent c.run_simulate.ensures.simulated

pub returns-clause-store : goal.returns-clause-store
returns-clause-store g c = reused _ _ _ (Some c.in-Ok.keeper) c.run_simulate.new.keeper _ _ (λ k f refused. refused.1) c.in-Ok.ensures.stands c.run_simulate.ensures.store
