use Rattle.fuse_show.proofs.Found.{walked_wrong}
use Rattle.fuse_show.proofs.verify.verify_tree.Goals as goal

pub returns-clause-walked : goal.returns-clause-walked
returns-clause-walked g c =
    let begun = g.met.L.Look.and_then _ _ _ c.in-Ok.ensures.looks c.in-Ok-begin_walk.ensures.walked.looks in
    let all = g.met.L.Look.and_then _ _ _ begun c.in-Ok-go_on.ensures.walked.looks in
    walked_wrong g.L.Look.fault g.L.Look.looks g.L.Look.fails _ _ _
    (g.met.L.Look.or_less _ _ all) c.wrong.ensures.tells
