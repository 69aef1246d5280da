use Rattle.std.proofs.Common.{refl}
use Rattle.fuse_request.proofs.further.listxattr_of.Goals as goal

pub returns : goal.returns
returns c =
    (refl, (c.u32_at-size.ensures, c.if-body-ne-GETXATTR_IN.false))
