use Rattle.fuse_show.proofs.Found.{found_after}
use Rattle.fuse_show.proofs.verify.visit_entries.Goals as goal

pub returns-in-Err-clause-found : goal.returns-in-Err-clause-found
returns-in-Err-clause-found g c = found_after g.W.Sink.was_written g.W.Sink.was_flushed _ _ _ c.in-Err.fault c.loop-entry.invariant.silent c.in-Err.ensures.found
