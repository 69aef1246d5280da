use Rattle.fuse_store_files.proofs.Plain.{plain_stored}
use Rattle.fuse_store_files.proofs.laws.plain_over_any.Goals as goal

pub returns : goal.returns
returns c = plain_stored
