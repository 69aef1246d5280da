use Rattle.std.proofs.lemmas.Result.{err_from_is_err_and}
use Rattle.fuse_show.proofs.Found.{found_memory, walked_wrong}
use Rattle.fuse_show.proofs.verify.begin_walk.Goals as goal

pub returns-in-Some-clause-walked : goal.returns-in-Some-clause-walked
returns-in-Some-clause-walked g c =
    walked_wrong g.L.Look.fault g.L.Look.looks g.L.Look.fails _ _ _
    (g.met.L.Look.or_less _ _ (g.met.L.Look.still _)) c.wrong.ensures.tells

pub returns-then-not-is_directory-clause-walked : goal.returns-then-not-is_directory-clause-walked
returns-then-not-is_directory-clause-walked g c =
    walked_wrong g.L.Look.fault g.L.Look.looks g.L.Look.fails _ _ _
    (g.met.L.Look.or_less _ _ c.in-Ok.ensures.walked.looks) c.wrong-then-not-is_directory.ensures.tells

pub returns-in_err-add_node-clause-found : goal.returns-in_err-add_node-clause-found
returns-in_err-add_node-clause-found g c =
    let p = err_from_is_err_and c.from_residual.result c.from_residual.ensures.1 in
    found_memory g.W.Sink.was_written g.W.Sink.was_flushed _ _ c.from_residual.result _ p.1 p.2 c.in-Ok.ensures.silent
