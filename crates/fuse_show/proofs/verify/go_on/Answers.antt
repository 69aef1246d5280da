use Rattle.fuse_show.proofs.Found.{found_after}
use Rattle.fuse_show.proofs.verify.go_on.Goals as goal

pub returns-in-Err-clause-found : goal.returns-in-Err-clause-found
returns-in-Err-clause-found g c = found_after g.W.Sink.was_written g.W.Sink.was_flushed _ _ _ c.in-Err.fault c.loop.invariant.silent c.in-Err.ensures.found
