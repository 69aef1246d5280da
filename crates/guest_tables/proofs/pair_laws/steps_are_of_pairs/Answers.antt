use Rattle.guest_tables.proofs.PairHoldings.{steps}
use Rattle.guest_tables.proofs.pair_laws.steps_are_of_pairs.Goals as goal

pub returns : goal.returns
returns c = steps
