use Rattle.fuse_show.proofs.Found.{walked_wrong}
use Rattle.fuse_show.proofs.verify.read_written.Goals as goal

pub returns-then-found-count-clause-walked : goal.returns-then-found-count-clause-walked
returns-then-found-count-clause-walked g c =
    walked_wrong g.L.Look.fault g.L.Look.looks g.L.Look.fails _ _ _ (g.met.L.Look.or_less _ _ c.loop.invariant.looks) c.wrong.ensures.tells
