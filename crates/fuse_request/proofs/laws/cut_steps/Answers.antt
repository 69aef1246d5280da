use Rattle.fuse_request.proofs.Streams as streams
use Rattle.fuse_request.proofs.laws.cut_steps.Goals as goal

pub returns : goal.returns
returns c = streams.cut_steps c.numbers_read.ensures
