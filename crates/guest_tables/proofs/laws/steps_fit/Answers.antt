use Rattle.guest_tables.proofs.Holdings.{steps_fit}
use Rattle.guest_tables.proofs.laws.steps_fit.Goals as goal

pub returns : goal.returns
returns c = steps_fit
