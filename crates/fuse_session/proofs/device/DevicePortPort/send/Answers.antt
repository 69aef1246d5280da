use Rattle.std.proofs.Common.{rules, arith, refl}
use Rattle.std.proofs.lemmas.Grind.{common_steps}
use Rattle.fuse_session.specs.declared.port.Sent.TheVariants.{Took, Failed}
use Rattle.fuse_session.proofs.Devices.{device_took}
use Rattle.fuse_session.proofs.device.DevicePortPort.send.Goals as goal

pub returns-then-not-is_empty-clause-same : goal.returns-then-not-is_empty-clause-same
returns-then-not-is_empty-clause-same g c =
    device_took g.R.Source.was_read g.W.Sink.was_written c.args.self.now _ c.args.bytes.now (Took c.in-Took.n)
    (g.W.Sink.contents c.args.self.now.writer) (g.W.Sink.contents c.write_once.new.self) (search rules) (search rules) (search rules)

pub returns-else-n-eq0-clause-same : goal.returns-else-n-eq0-clause-same
returns-else-n-eq0-clause-same g c =
    device_took g.R.Source.was_read g.W.Sink.was_written c.args.self.now c.else-n-eq0.self c.args.bytes.now (Took c.in-Took.n)
    (g.W.Sink.contents c.args.self.now.writer) (g.W.Sink.contents c.write_once.new.self) (search rules) (search rules) (search rules)

pub returns-in-Gone-clause-sent : goal.returns-in-Gone-clause-sent
returns-in-Gone-clause-sent g c = grind (arith, common_steps)

pub returns-in-Gone-clause-same : goal.returns-in-Gone-clause-same
returns-in-Gone-clause-same g c =
    device_took g.R.Source.was_read g.W.Sink.was_written c.args.self.now _ c.args.bytes.now c.sent_by-sent.result
    (g.W.Sink.contents c.args.self.now.writer) (g.W.Sink.contents c.write_once.new.self) refl (returns-in-Gone-clause-sent g c) (search rules)

pub returns-in_default-clause-same : goal.returns-in_default-clause-same
returns-in_default-clause-same g c =
    device_took g.R.Source.was_read g.W.Sink.was_written c.args.self.now _ c.args.bytes.now Failed
    (g.W.Sink.contents c.args.self.now.writer) (g.W.Sink.contents c.write_once.new.self) (search rules) (search rules) (search rules)
