use Rattle.spec_tests.proofs.Agreements as cases
use Rattle.spec_tests.proofs.messages.negotiation.init_short.Goals as goal

pub returns : goal.returns
returns c = cases.init_short
