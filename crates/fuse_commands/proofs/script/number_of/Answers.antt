use Rattle.std.proofs.Common.{sym}
use Rattle.fuse_commands.proofs.Scripted.{digit_more, no_number, too_large, all_read}
use Rattle.fuse_commands.proofs.script.number_of.Goals as goal

pub returns-in_err-digit_of-clause-only : goal.returns-in_err-digit_of-clause-only
returns-in_err-digit_of-clause-only c =
    λ secs s. absurd (no_number c.args.text.now c.loop-b.b-index c.loop-b-test.true (c.digit_of.ensures.none c.in_err-digit_of.was) secs s)

pub returns-in_err-number-clause-only : goal.returns-in_err-number-clause-only
returns-in_err-number-clause-only c = λ secs s.
    absurd
    (too_large c.args.text.now c.loop-b.b-index c.loop-b.number c.in_ok-digit_of.field-0 c.loop-b-test.true c.in_ok-digit_of.ensures.found.0
    (c.with_digit.ensures.none c.in_err-number.was) c.loop-b.invariant.0.1 secs s)

pub loop-b-preserved : goal.loop-b-preserved
loop-b-preserved c =
    let f = c.in_ok-digit_of.ensures.found in
    let g = c.in_ok-number.ensures.found in (
      digit_more c.args.text.now c.loop-b.b-index c.loop-b.number c.in_ok-digit_of.field-0 c.in_ok-number.number c.loop-b-test.true f.0 f.1 g.0 c.loop-b.invariant.0,
      g.1,
    )

pub returns-clause-found : goal.returns-clause-found
returns-clause-found c =
    all_read c.args.text.now c.loop-b.b-index c.loop-b.number c.loop-b-test.false (sym c.if-is_empty.ensures) c.loop-b.invariant.1 c.loop-b.invariant.0
