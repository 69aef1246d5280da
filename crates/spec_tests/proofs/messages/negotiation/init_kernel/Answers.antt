use Rattle.spec_tests.proofs.Agreements as cases
use Rattle.spec_tests.proofs.messages.negotiation.init_kernel.Goals as goal

pub returns : goal.returns
returns c = cases.init_kernel
