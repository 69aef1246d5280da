use Rattle.fuse_show.proofs.Found.{walked_wrong}
use Rattle.fuse_show.proofs.verify.visit_directory.Goals as goal

pub returns-then-more-place-clause-walked : goal.returns-then-more-place-clause-walked
returns-then-more-place-clause-walked g c =
    walked_wrong g.L.Look.fault g.L.Look.looks g.L.Look.fails _ _ _
    (g.met.L.Look.or_less _ _ (g.met.L.Look.and_then _ _ _ c.loop.invariant.looks c.in-Ok-default-false.ensures.walked.looks)) c.wrong.ensures.tells

pub returns-clause-walked : goal.returns-clause-walked
returns-clause-walked g c =
    walked_wrong g.L.Look.fault g.L.Look.looks g.L.Look.fails _ _ _
    (g.met.L.Look.or_less _ _ c.loop.invariant.looks) c.wrong-2.ensures.tells
