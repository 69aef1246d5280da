use Rattle.std.proofs.Common.{inl}
use Rattle.guest_values.proofs.reading.read_two.Goals as goal

pub returns-in-Err-clause-cause : goal.returns-in-Err-clause-cause
returns-in-Err-clause-cause g c = inl c.in-Err.ensures.cause
