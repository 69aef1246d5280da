use Rattle.spec_tests.proofs.Agreements as cases
use Rattle.spec_tests.proofs.messages.negotiation.newer_minor_case.Goals as goal

pub returns : goal.returns
returns c = cases.newer_minor
