use Rattle.std.proofs.Common.{refl}
use Rattle.fuse_wire.specs.Bytes.{le}
use Rattle.fuse_answer.specs.Bodies.{attr_bytes, entry_bytes, attr_out_bytes}
use Rattle.fuse_answer.specs.Wire.{wire, wire_head}
use Rattle.spec_tests.proofs.messages.records.first_run.Goals as goal

pub returns : goal.returns
unfolding le attr_bytes entry_bytes attr_out_bytes wire wire_head
returns c = (refl, refl, refl, refl)
