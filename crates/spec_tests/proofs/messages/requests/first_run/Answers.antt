use Rattle.spec_tests.proofs.Spellings as cases
use Rattle.spec_tests.proofs.messages.requests.first_run.Goals as goal

pub returns : goal.returns
returns c = cases.first_run c.canon_spells.ensures
