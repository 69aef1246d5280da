use Rattle.std.proofs.Common.{inl, refl}
use Rattle.fuse_show.specs.Verdict.{tally_text}
use Rattle.fuse_commands.specs.declared.ending.Ending.TheVariants.{Done}
use Rattle.fuse_files.proofs.Verified.{verdict_line, verdict_cut}
use Rattle.fuse_files.proofs.verifying.write_tally.Goals as goal

pub returns-in-Ok : goal.returns-in-Ok
returns-in-Ok g c =
    verdict_line g.W.Sink.was_written g.W.Sink.was_flushed {Unsaid = λ x. ⊥} _ _ Done (tally_text c.args.tally.now) (inl (refl, (c.args.tally.now, refl, refl))) c.in-Ok.ensures.shown

pub returns-in-Err : goal.returns-in-Err
returns-in-Err g c =
    verdict_cut g.W.Sink.was_written g.W.Sink.was_flushed {Unsaid = λ x. ⊥} _ _ Done (tally_text c.args.tally.now) _ (inl (refl, (c.args.tally.now, refl, refl))) c.in-Err.ensures.fault
    c.in-Err.ensures.shown
