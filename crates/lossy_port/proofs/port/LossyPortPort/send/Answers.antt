use Rattle.std.proofs.Common.{refl, sym, ◌∙◌, arith}
use Rattle.std.proofs.lemmas.List.{append-nil}
use Rattle.std.proofs.lemmas.Grind.{common_steps}
use Rattle.lossy_port.specs.inner.Laws.{delivers_none}
use Rattle.lossy_port.proofs.Slices.{one_taken, one_sent}
use Rattle.lossy_port.proofs.port.LossyPortPort.send.Goals as goal

pub returns-in-Ok-clause-sent : goal.returns-in-Ok-clause-sent
returns-in-Ok-clause-sent c = grind (arith, common_steps)

pub returns-in-Ok-clause-passes : goal.returns-in-Ok-clause-passes
returns-in-Ok-clause-passes c = (refl, one_taken c.args.self.now.line c.take.new.self c.args.bytes.now c.in-Ok.ensures.ok)

pub returns-in-Ok-clause-same : goal.returns-in-Ok-clause-same
returns-in-Ok-clause-same c = one_sent _ _ _ _ (returns-in-Ok-clause-sent c) (returns-in-Ok-clause-passes c)

pub returns-in-Err-clause-sent : goal.returns-in-Err-clause-sent
returns-in-Err-clause-sent c = record {
  count = 0;
  within = omega arith;
  counts = tt;
  sent = c.in-Err.ensures.err.sent ∙ sym (append-nil c.args.self.now.line.sent.items);
  failures = refl;
  gone = refl;
  quiet = record { coming = refl; receives = refl; has_ended = refl; ends = refl; receive_failures = refl; confirms = refl };
}

pub returns-in-Err-clause-passes : goal.returns-in-Err-clause-passes
returns-in-Err-clause-passes c = (delivers_none c.args.self.now.line c.take.new.self c.in-Err.ensures.err, c.in-Err.ensures.full)

pub returns-in-Err-clause-same : goal.returns-in-Err-clause-same
returns-in-Err-clause-same c = one_sent _ _ _ _ (returns-in-Err-clause-sent c) (returns-in-Err-clause-passes c)
