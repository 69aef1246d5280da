use Rattle.std.proofs.Common.{inl, refl}
use Rattle.fuse_show.specs.Findings.{finding_line}
use Rattle.fuse_show.proofs.Found.{found_wrong, found_cut}
use Rattle.fuse_show.proofs.verify.wrong.Goals as goal

pub returns-in-Ok-clause-found : goal.returns-in-Ok-clause-found
returns-in-Ok-clause-found g c = found_wrong g.W.Sink.was_written g.W.Sink.was_flushed _ _ c.args.path.now c.args.finding c.in-Ok.ensures.shown

pub returns-in-Err-clause-found : goal.returns-in-Err-clause-found
returns-in-Err-clause-found g c =
    found_cut g.W.Sink.was_written g.W.Sink.was_flushed _ _ (finding_line c.args.path.now c.args.finding) _ (inl (c.args.path.now, c.args.finding, refl))
    c.in-Err.ensures.fault c.in-Err.ensures.shown
