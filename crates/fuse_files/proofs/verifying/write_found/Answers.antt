use Rattle.std.proofs.Common.{[], inl, inr, refl}
use Rattle.fuse_show.specs.Findings.{finding_line}
use Rattle.fuse_commands.specs.declared.ending.Ending.TheVariants.{Damaged}
use Rattle.fuse_files.proofs.Verified.{verdict_line, verdict_cut}
use Rattle.fuse_files.proofs.verifying.write_found.Goals as goal

pub returns-in-Ok : goal.returns-in-Ok
returns-in-Ok g c =
    verdict_line g.W.Sink.was_written g.W.Sink.was_flushed {Unsaid = λ x. ⊥} _ _ Damaged (finding_line [] c.args.finding) (inr (inl (refl, ([], c.args.finding, refl)))) c.in-Ok.ensures.shown

pub returns-in-Err : goal.returns-in-Err
returns-in-Err g c =
    verdict_cut g.W.Sink.was_written g.W.Sink.was_flushed {Unsaid = λ x. ⊥} _ _ Damaged (finding_line [] c.args.finding) _ (inr (inl (refl, ([], c.args.finding, refl)))) c.in-Err.ensures.fault
    c.in-Err.ensures.shown
