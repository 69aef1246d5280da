use Rattle.fuse_show.proofs.Naming as naming
use Rattle.fuse_show.proofs.laws.names_apart.Goals as goal

pub returns : goal.returns
returns c = naming.names_apart
