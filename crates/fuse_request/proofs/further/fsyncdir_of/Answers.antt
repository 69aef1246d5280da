use Rattle.std.proofs.Common.{refl}
use Rattle.fuse_request.proofs.further.fsyncdir_of.Goals as goal

pub returns : goal.returns
returns c =
    (refl, (c.u64_at-fh.ensures, (c.u32_at-fsync_flags.ensures, c.if-body-ne-FSYNC_IN.false)))
