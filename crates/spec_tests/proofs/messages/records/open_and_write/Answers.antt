use Rattle.std.proofs.Common.{refl}
use Rattle.fuse_wire.specs.Bytes.{le}
use Rattle.fuse_answer.specs.Bodies.{open_bytes, write_bytes}
use Rattle.fuse_answer.specs.Wire.{wire, wire_head}
use Rattle.spec_tests.proofs.messages.records.open_and_write.Goals as goal

pub returns : goal.returns
unfolding le open_bytes write_bytes wire wire_head
returns c = (refl, refl, refl)
