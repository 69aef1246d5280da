use Rattle.std.proofs.Common.{refl}
use Rattle.fuse_keeper.specs.Group.{HasId, IsPerformed}
use Rattle.five_files.specs.TheFiles.{the_files}
use Rattle.spec_tests.proofs.Small.{all_one}
use Rattle.spec_tests.proofs.examples.copies.ask.Goals as goal

pub perform-requires-clause-named : goal.perform-requires-clause-named
perform-requires-clause-named c = all_one HasId _ c.requires

pub perform-requires-clause-performed : goal.perform-requires-clause-performed
perform-requires-clause-performed c = all_one (IsPerformed the_files.service) _ refl
