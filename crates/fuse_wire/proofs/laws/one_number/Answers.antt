use Rattle.fuse_wire.proofs.Numbers as numbers
use Rattle.fuse_wire.proofs.laws.one_number.Goals as goal

pub returns : goal.returns
returns c = numbers.one_number
