use Rattle.fuse_plan.proofs.BytesKept as bytes
use Rattle.fuse_plan.proofs.laws.bytes_kept.Goals as goal

pub returns : goal.returns
returns c = bytes.bytes_kept
