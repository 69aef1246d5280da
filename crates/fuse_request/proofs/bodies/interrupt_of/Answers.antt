use Rattle.std.proofs.Common.{refl}
use Rattle.fuse_request.proofs.bodies.interrupt_of.Goals as goal

pub returns : goal.returns
returns c =
    (refl, tt, (c.u64_at-unique.ensures, c.if-body-ne-INTERRUPT_IN.false))
