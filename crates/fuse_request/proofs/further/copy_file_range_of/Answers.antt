use Rattle.std.proofs.Common.{refl}
use Rattle.fuse_request.proofs.FurtherContents.{copy_file_range_placed}
use Rattle.fuse_request.proofs.further.copy_file_range_of.Goals as goal

pub returns : goal.returns
returns c = rw c.copy_file_range_at.ensures (refl, copy_file_range_placed c.args.body.now c.if-body-ne-COPY_FILE_RANGE_IN.false)
