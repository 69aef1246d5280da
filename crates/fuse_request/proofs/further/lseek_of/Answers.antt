use Rattle.std.proofs.Common.{refl}
use Rattle.fuse_request.proofs.further.lseek_of.Goals as goal

pub returns : goal.returns
returns c =
    (refl, (c.u64_at-fh.ensures, (c.u64_at-offset.ensures, (c.u32_at-whence.ensures, c.if-body-ne-LSEEK_IN.false))))
