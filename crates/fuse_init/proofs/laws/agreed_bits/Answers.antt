use Rattle.fuse_init.proofs.SetBits as bits
use Rattle.fuse_init.proofs.laws.agreed_bits.Goals as goal

pub returns : goal.returns
returns c = bits.agreed_bits
