use Rattle.std.proofs.Common.{refl}
use Rattle.fuse_wire.specs.Bytes.{le}
use Rattle.fuse_answer.specs.Bodies.{header_bytes}
use Rattle.fuse_answer.specs.Notice.{resend_bytes}
use Rattle.spec_tests.proofs.messages.records.headers.Goals as goal

pub returns : goal.returns
unfolding le header_bytes resend_bytes
returns c = (refl, refl, refl)
