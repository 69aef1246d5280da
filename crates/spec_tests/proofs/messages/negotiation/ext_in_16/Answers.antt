use Rattle.spec_tests.proofs.Agreements as cases
use Rattle.spec_tests.proofs.messages.negotiation.ext_in_16.Goals as goal

pub returns : goal.returns
returns c = cases.ext_in_16
