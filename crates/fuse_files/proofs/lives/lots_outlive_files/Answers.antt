use Rattle.fuse_files.proofs.Lots.{lots_kept}
use Rattle.fuse_files.proofs.lives.lots_outlive_files.Goals as goal

pub returns : goal.returns
returns g c k k' left disk closed image may keeps rows records at =
    lots_kept g.P.Profiled.PROFILE k k' left disk closed g.met.D.Disk.seen_may_stay c.plain_over_any.ensures c.lots_are_read.ensures.same image may keeps rows records at
