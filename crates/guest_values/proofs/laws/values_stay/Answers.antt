use Rattle.guest_values.proofs.Staying.{value_stays, values_stay}
use Rattle.guest_values.proofs.laws.values_stay.Goals as goal

pub returns : goal.returns
returns c = record { one = value_stays; all = values_stay }
