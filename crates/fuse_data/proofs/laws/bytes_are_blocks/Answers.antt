use Rattle.fuse_data.proofs.Keepings.{bytes_len}
use Rattle.fuse_data.proofs.laws.bytes_are_blocks.Goals as goal

pub returns : goal.returns
returns c file p within = bytes_len file p within
