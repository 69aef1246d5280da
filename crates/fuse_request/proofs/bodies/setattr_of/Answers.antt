use Rattle.std.proofs.Common.{refl}
use Rattle.fuse_request.proofs.Laid.{setattr_placed}
use Rattle.fuse_request.proofs.bodies.setattr_of.Goals as goal

pub returns : goal.returns
returns c = rw c.setattr_at.ensures (refl, tt, setattr_placed c.args.body.now c.if-body-ne-SETATTR_IN.false)
