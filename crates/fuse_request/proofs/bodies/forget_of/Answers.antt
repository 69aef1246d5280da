use Rattle.std.proofs.Common.{refl}
use Rattle.fuse_request.proofs.bodies.forget_of.Goals as goal

pub returns : goal.returns
returns c =
    (refl, tt, (c.u64_at-nlookup.ensures, c.if-body-ne-FORGET_IN.false))
