use Rattle.std.proofs.Common.{refl}
use Rattle.fuse_request.proofs.further.fallocate_of.Goals as goal

pub returns : goal.returns
returns c =
    (refl, (c.u64_at-fh.ensures, (c.u64_at-offset.ensures, (c.u64_at-len.ensures, (c.u32_at-mode.ensures, c.if-body-ne-FALLOCATE_IN.false)))))
