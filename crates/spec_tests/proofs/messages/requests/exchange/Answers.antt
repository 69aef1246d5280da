use Rattle.spec_tests.proofs.Spellings as cases
use Rattle.spec_tests.proofs.messages.requests.exchange.Goals as goal

pub returns : goal.returns
returns c = cases.exchange c.canon_spells.ensures
