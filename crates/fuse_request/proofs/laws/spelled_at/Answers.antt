use Rattle.fuse_request.proofs.Heads as heads
use Rattle.fuse_request.proofs.laws.spelled_at.Goals as goal

pub returns : goal.returns
returns c = heads.spelled_at (c.layouts_stand.ensures, c.names_end.ensures)
