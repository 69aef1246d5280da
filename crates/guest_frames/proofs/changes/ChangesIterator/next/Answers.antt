use Rattle.std.proofs.Common.{length, ap, arith}
use Rattle.guest_frames.specs.Borrowed.{change_content, changes_left}
use Rattle.guest_frames.specs.Reading.{change_first}
use Rattle.guest_frames.proofs.Items.{by_none, by_some, by_zero}
use Rattle.guest_frames.proofs.changes.ChangesIterator.next.Goals as goal

pub returns-then-self-eq0-clause-steps : goal.returns-then-self-eq0-clause-steps
unfolding changes_left
returns-then-self-eq0-clause-steps c =
    let none = by_zero change_first c.args.self.now.left c.args.self.now.rest.now c.if-self-eq0.true in (none, none)

pub returns-in_default-clause-steps : goal.returns-in_default-clause-steps
unfolding changes_left
returns-in_default-clause-steps c =
    let none = by_none change_first c.args.self.now.left c.args.self.now.rest.now c.in_default.field-0 c.in_default.ensures in (none, none)

pub returns-clause-steps : goal.returns-clause-steps
unfolding changes_left
returns-clause-steps c =
    by_some change_first c.args.self.now.left c.args.self.now.rest.now (change_content c.in-Ok.change) c.in-Ok.rest.now (omega (arith, c.if-self-eq0.false))
    c.in-Ok.ensures

pub returns-clause-goes : goal.returns-clause-goes
unfolding changes_left
returns-clause-goes c =
    let some = by_some change_first c.args.self.now.left c.args.self.now.rest.now (change_content c.in-Ok.change) c.in-Ok.rest.now (omega (arith, c.if-self-eq0.false))
    c.in-Ok.ensures in
    record { on = λ _. (tt, tt, omega (arith, ap length some)); keeps = tt; rests = λ _. tt }
