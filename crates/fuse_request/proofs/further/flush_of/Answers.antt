use Rattle.std.proofs.Common.{refl}
use Rattle.fuse_request.proofs.further.flush_of.Goals as goal

pub returns : goal.returns
returns c =
    (refl, (c.u64_at-fh.ensures, (c.u64_at-lock_owner.ensures, c.if-body-ne-FLUSH_IN.false)))
