use Rattle.std.proofs.Common.{refl}
use Rattle.fuse_request.proofs.Laid.{release_placed}
use Rattle.fuse_request.proofs.bodies.release_of.Goals as goal

pub returns : goal.returns
returns c = rw c.release_at.ensures (refl, tt, release_placed c.args.body.now c.if-body-ne-RELEASE_IN.false)
