use Rattle.std.proofs.Common.{refl}
use Rattle.fuse_request.proofs.further.access_of.Goals as goal

pub returns : goal.returns
returns c =
    (refl, (c.u32_at-mask.ensures, c.if-body-ne-ACCESS_IN.false))
