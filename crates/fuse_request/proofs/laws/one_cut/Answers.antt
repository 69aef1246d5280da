use Rattle.fuse_request.proofs.Streams as streams
use Rattle.fuse_request.proofs.laws.one_cut.Goals as goal

pub returns : goal.returns
returns c = streams.has_one_cut c.numbers_read.ensures
