use Rattle.fuse_wire.proofs.Layouts as layouts
use Rattle.fuse_wire.proofs.laws.names_end.Goals as goal

pub returns : goal.returns
returns c = layouts.names_end
