use Rattle.std.proofs.Common.{length, ap, arith}
use Rattle.guest_frames.specs.declared.guest_kind.GuestKind.TheVariants.{Get}
use Rattle.guest_frames.specs.Borrowed.{keys_left}
use Rattle.guest_frames.specs.Reading.{key_first}
use Rattle.guest_frames.proofs.Items.{by_none, by_some, by_zero}
use Rattle.guest_frames.proofs.keys.KeysIterator.next.Goals as goal

pub returns-then-self-eq0-clause-steps : goal.returns-then-self-eq0-clause-steps
unfolding keys_left
returns-then-self-eq0-clause-steps c =
    let none = by_zero (key_first Get) c.args.self.now.left c.args.self.now.rest.now c.if-self-eq0.true in (none, none)

pub returns-in_default-clause-steps : goal.returns-in_default-clause-steps
unfolding keys_left
returns-in_default-clause-steps c =
    let none = by_none (key_first Get) c.args.self.now.left c.args.self.now.rest.now c.in_default.field-0 c.in_default.ensures in (none, none)

pub returns-clause-steps : goal.returns-clause-steps
unfolding keys_left
returns-clause-steps c =
    by_some (key_first Get) c.args.self.now.left c.args.self.now.rest.now c.in-Ok.key.now c.in-Ok.rest.now (omega (arith, c.if-self-eq0.false)) c.in-Ok.ensures

pub returns-clause-goes : goal.returns-clause-goes
unfolding keys_left
returns-clause-goes c =
    let some = by_some (key_first Get) c.args.self.now.left c.args.self.now.rest.now c.in-Ok.key.now c.in-Ok.rest.now (omega (arith, c.if-self-eq0.false)) c.in-Ok.ensures in
    record { on = λ _. (tt, tt, omega (arith, ap length some)); keeps = tt; rests = λ _. tt }
