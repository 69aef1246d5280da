use Rattle.std.proofs.Common.{refl}
use Rattle.fuse_request.proofs.bodies.open_dir_of.Goals as goal

pub returns : goal.returns
returns c =
    (refl, tt, (c.u32_at-flags.ensures, (c.u32_at-open_flags.ensures, c.if-body-ne-OPEN_IN.false)))
