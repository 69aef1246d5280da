use Rattle.std.proofs.Common.{inr, refl}
use Rattle.fuse_show.specs.Findings.{unread_line}
use Rattle.fuse_show.proofs.Found.{found_unread, found_cut}
use Rattle.fuse_show.proofs.verify.unread.Goals as goal

pub returns-in-Ok-clause-found : goal.returns-in-Ok-clause-found
returns-in-Ok-clause-found g c = found_unread g.W.Sink.was_written g.W.Sink.was_flushed _ _ c.args.path.now c.args.fault c.in-Ok.ensures.shown

pub returns-in-Err-clause-found : goal.returns-in-Err-clause-found
returns-in-Err-clause-found g c =
    found_cut g.W.Sink.was_written g.W.Sink.was_flushed _ _ (unread_line c.args.path.now) _ (inr (c.args.path.now, refl)) c.in-Err.ensures.fault
    c.in-Err.ensures.shown
