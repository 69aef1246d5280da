use Rattle.std.proofs.Common.{rules, refl}
use Rattle.fuse_session.proofs.Devices.{device_gave}
use Rattle.fuse_session.proofs.device.DevicePortPort.receive.Goals as goal

pub returns-in-Got-clause-same : goal.returns-in-Got-clause-same
returns-in-Got-clause-same g c =
    device_gave g.R.Source.was_read g.W.Sink.was_written c.args.self.now _ c.received_by-received.result c.read_once.new.buffer
    (g.R.Source.remaining c.args.self.now.reader) (g.R.Source.remaining c.read_once.new.self) refl (search rules)
    (record {
      read = c.read_once.result;
      was = c.read_once.ensures.once;
      within = c.read_once.ensures.bound;
      bytes = c.read_once.ensures.bytes;
      is = c.received_by-received.ensures;
    })

pub returns-in-End-clause-same : goal.returns-in-End-clause-same
returns-in-End-clause-same g c =
    device_gave g.R.Source.was_read g.W.Sink.was_written c.args.self.now _ c.received_by-received.result c.read_once.new.buffer
    (g.R.Source.remaining c.args.self.now.reader) (g.R.Source.remaining c.read_once.new.self) refl (search rules)
    (record {
      read = c.read_once.result;
      was = c.read_once.ensures.once;
      within = c.read_once.ensures.bound;
      bytes = c.read_once.ensures.bytes;
      is = c.received_by-received.ensures;
    })

pub returns-in-Failed-clause-same : goal.returns-in-Failed-clause-same
returns-in-Failed-clause-same g c =
    device_gave g.R.Source.was_read g.W.Sink.was_written c.args.self.now _ c.received_by-received.result c.read_once.new.buffer
    (g.R.Source.remaining c.args.self.now.reader) (g.R.Source.remaining c.read_once.new.self) refl (search rules)
    (record {
      read = c.read_once.result;
      was = c.read_once.ensures.once;
      within = c.read_once.ensures.bound;
      bytes = c.read_once.ensures.bytes;
      is = c.received_by-received.ensures;
    })
