use Rattle.spec_tests.proofs.Spellings as cases
use Rattle.spec_tests.proofs.messages.requests.rename_bytes.Goals as goal

pub returns : goal.returns
returns c = cases.rename_bytes c.canon_spells.ensures
