use Rattle.std.proofs.Common.{ap, not, ◌∙◌}
use Rattle.guest_store.proofs.starting.law_of_rest.Goals as goal

pub returns-clause-settled : goal.returns-clause-settled
returns-clause-settled g c = λ outside. c.is_autocommit.ensures.settled (c.is_autocommit.ensures.value ∙ ap not outside)
