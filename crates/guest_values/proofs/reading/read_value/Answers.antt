use Rattle.std.proofs.Common.{ap, take, ◌∙◌}
use Rattle.fuse_data.specs.State.{state_of}
use Rattle.guest_values.proofs.Readings.{reads_same, unfit_fails}
use Rattle.guest_values.proofs.reading.read_value.Goals as goal

pub returns-then-not-is_fit-clause-cause : goal.returns-then-not-is_fit-clause-cause
returns-then-not-is_fit-clause-cause g c =
    let s = state_of g.D.Disk c.args.file.now in
    unfit_fails s.is_usable s.is_clean s.seen c.args.value c.if-not-is_fit.ensures.1

pub returns-then-not-is_fit-clause-reads : goal.returns-then-not-is_fit-clause-reads
returns-then-not-is_fit-clause-reads g c = reads_same (state_of g.D.Disk c.args.file.now)

pub returns-in-Ok-clause-tested : goal.returns-in-Ok-clause-tested
returns-in-Ok-clause-tested g c = (c.in-Ok.bytes.items, c.truncate.ensures.items, c.in-Ok.ensures.tested)

pub returns-in-Ok-clause-bytes : goal.returns-in-Ok-clause-bytes
returns-in-Ok-clause-bytes g c = λ clean. c.truncate.ensures.items ∙ ap (take c.args.value.len) (c.in-Ok.ensures.bytes clean)
