use Rattle.guest_tables.proofs.Holdings.{steps_hold}
use Rattle.guest_tables.proofs.laws.steps_hold.Goals as goal

pub returns : goal.returns
returns c = steps_hold
