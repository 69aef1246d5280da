use Rattle.spec_tests.proofs.Spellings as cases
use Rattle.spec_tests.proofs.messages.requests.missing_lookup.Goals as goal

pub returns : goal.returns
returns c = cases.missing_lookup c.canon_spells.ensures
