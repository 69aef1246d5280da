use Rattle.std.proofs.Common.{refl}
use Rattle.fuse_wire.specs.Bytes.{le}
use Rattle.fuse_answer.specs.Wire.{wire, wire_head}
use Rattle.spec_tests.proofs.messages.records.reads.Goals as goal

pub returns : goal.returns
unfolding le wire wire_head
returns c = (refl, refl, refl)
