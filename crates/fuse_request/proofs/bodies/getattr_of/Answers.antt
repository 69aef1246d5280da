use Rattle.std.proofs.Common.{refl}
use Rattle.fuse_request.proofs.bodies.getattr_of.Goals as goal

pub returns : goal.returns
returns c =
    (refl, tt, (c.u32_at-flags.ensures, (c.u64_at-fh.ensures, c.if-body-ne-GETATTR_IN.false)))
