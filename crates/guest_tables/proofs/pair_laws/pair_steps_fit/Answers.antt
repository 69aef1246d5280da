use Rattle.guest_tables.proofs.PairHoldings.{stay_fit}
use Rattle.guest_tables.proofs.pair_laws.pair_steps_fit.Goals as goal

pub returns : goal.returns
returns c = stay_fit
