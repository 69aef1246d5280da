use Rattle.spec_tests.proofs.Agreements as cases
use Rattle.spec_tests.proofs.messages.negotiation.init_newer_major.Goals as goal

pub returns : goal.returns
returns c = cases.init_newer_major
