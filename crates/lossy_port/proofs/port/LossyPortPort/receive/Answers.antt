use Rattle.std.proofs.Common.{refl, ◌≤◌, ◌-◌, length, arith}
use Rattle.std.proofs.lemmas.Grind.{common_steps}
use Rattle.lossy_port.proofs.Pieces.{piece_came, copied_is, copied_length, room}
use Rattle.lossy_port.proofs.Slices.{one_received}
use Rattle.lossy_port.proofs.port.LossyPortPort.receive.Goals as goal

pub returns-then-left-eq0-clause-received : goal.returns-then-left-eq0-clause-received
returns-then-left-eq0-clause-received c = grind (arith, common_steps)

pub returns-then-left-eq0-clause-same : goal.returns-then-left-eq0-clause-same
returns-then-left-eq0-clause-same c = one_received _ _ _ _ (returns-then-left-eq0-clause-received c) refl

pub returns-clause-received : goal.returns-clause-received
returns-clause-received c =
    let p = c.args.self.now in
    let n = c.min-n.result in
    let copied = copied_is p.input.items c.copy_from_slice.new.self c.deref.result.now p.at n c.copy_from_slice.ensures.after c.deref.ensures.value in
    let fits : n ≤ length p.input.items - p.at = omega (arith, c.min-n.ensures, c.len.ensures, p.input.ok.0) in
    let len = copied_length p.input.items c.copy_from_slice.new.self p.at n copied fits in
    record {
      bytes = (room c.copy_from_slice.new.self _ n len, piece_came p.input.items c.copy_from_slice.new.self _ p.at n len copied);
      sent = refl;
      receives = refl;
      has_ended = refl;
      ends = omega arith;
      failures = omega arith;
      receive_failures = refl;
      confirms = refl;
      gone = refl;
    }

pub returns-clause-same : goal.returns-clause-same
returns-clause-same c = one_received _ _ _ _ (returns-clause-received c) refl
