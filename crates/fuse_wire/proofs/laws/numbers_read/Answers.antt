use Rattle.fuse_wire.proofs.Layouts as layouts
use Rattle.fuse_wire.proofs.laws.numbers_read.Goals as goal

pub returns : goal.returns
returns c = layouts.numbers_read
