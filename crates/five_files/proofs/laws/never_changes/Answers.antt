use Rattle.five_files.proofs.Same as same
use Rattle.five_files.proofs.laws.never_changes.Goals as goal

pub returns : goal.returns
returns c = same.never_changes
