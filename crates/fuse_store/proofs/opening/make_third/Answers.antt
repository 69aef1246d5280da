use Rattle.fuse_store.proofs.SecondOpenings.{follows_seen}
use Rattle.fuse_store.proofs.opening.make_third.Goals as goal

pub returns-in-Ok-clause-follows : goal.returns-in-Ok-clause-follows
returns-in-Ok-clause-follows g c = follows_seen g.D.Disk g.met.D.Disk.seen_may_stay c.args.disk _
