use Rattle.std.proofs.Common.{arith}
use Rattle.fuse_data.proofs.data_file.law_of_bytes.Goals as goal

pub returns : goal.returns
returns c = λ i. omega (arith, c.type_inv.bytes i)
