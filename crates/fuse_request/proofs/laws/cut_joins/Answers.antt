use Rattle.fuse_request.proofs.Streams as streams
use Rattle.fuse_request.proofs.laws.cut_joins.Goals as goal

pub returns : goal.returns
returns c = streams.cut_joins c.numbers_read.ensures
