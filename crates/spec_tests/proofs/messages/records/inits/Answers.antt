use Rattle.std.proofs.Common.{refl}
use Rattle.fuse_wire.specs.Bytes.{le}
use Rattle.fuse_answer.specs.Bodies.{init_bytes}
use Rattle.fuse_answer.specs.Wire.{wire, wire_head}
use Rattle.spec_tests.proofs.messages.records.inits.Goals as goal

pub returns : goal.returns
unfolding le init_bytes wire wire_head
returns c = (refl, refl)
