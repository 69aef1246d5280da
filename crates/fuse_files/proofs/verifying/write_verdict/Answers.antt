use Rattle.std.proofs.Common.{◌≡◌}
use Rattle.fuse_files.proofs.Verified.{verdict_more}
use Rattle.fuse_files.proofs.verifying.write_verdict.Goals as goal

pub returns-in-Some : goal.returns-in-Some
returns-in-Some g c =
    verdict_more g.W.Sink.was_written g.W.Sink.was_flushed {Unsaid = λ _. ⊥} {Counted = λ _. ⊥} {Unsaid' = λ _. ⊥} {Counted' = λ t. t ≡ c.args.tally.now} _ _ _
    (λ e no. absurd no) (λ t no. absurd no) c.write_found.ensures
