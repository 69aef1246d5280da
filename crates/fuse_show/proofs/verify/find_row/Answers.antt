use Rattle.fuse_show.proofs.Found.{walked_wrong}
use Rattle.fuse_show.proofs.verify.find_row.Goals as goal

pub returns-in-Ok-None-clause-walked : goal.returns-in-Ok-None-clause-walked
returns-in-Ok-None-clause-walked g c =
    walked_wrong g.L.Look.fault g.L.Look.looks g.L.Look.fails _ _ _
    (g.met.L.Look.or_less _ _ c.in-Ok-None.ensures.looks) c.wrong.ensures.tells

pub returns-in-Some-clause-walked : goal.returns-in-Some-clause-walked
returns-in-Some-clause-walked g c =
    walked_wrong g.L.Look.fault g.L.Look.looks g.L.Look.fails _ _ _
    (g.met.L.Look.or_less _ _ c.in-Ok-Some.ensures.looks) c.wrong-in-Some.ensures.tells
