use Rattle.std.proofs.Common.{arith}
use Rattle.fuse_answer.specs.FirstEntry.{entries_left}
use Rattle.fuse_answer.proofs.Listings.{entries_are}
use Rattle.fuse_answer.proofs.unpacking.unpack.Goals as goal

pub returns : goal.returns
unfolding entries_left
returns c es h = entries_are c.layouts_stand.ensures es _ c.args.body.now (omega arith) h
