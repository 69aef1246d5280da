use Rattle.fuse_show.proofs.Found.{walked_wrong}
use Rattle.fuse_show.proofs.verify.read_range.Goals as goal

pub returns-in-Some-clause-walked : goal.returns-in-Some-clause-walked
returns-in-Some-clause-walked g c =
    walked_wrong g.L.Look.fault g.L.Look.looks g.L.Look.fails _ _ _
    (g.met.L.Look.or_less _ _ (g.met.L.Look.and_then _ _ _ c.loop-offset.invariant.looks c.in-Ok.ensures.looks)) c.wrong.ensures.tells
