use Rattle.std.proofs.Common.{refl}
use Rattle.fuse_request.proofs.Laid.{read_placed}
use Rattle.fuse_request.proofs.further.read_dir_plus_of.Goals as goal

pub returns : goal.returns
returns c = rw c.read_at.ensures (refl, read_placed c.args.body.now c.if-body-ne-READ_IN.false)
