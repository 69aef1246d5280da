use Rattle.std.proofs.Common.{rules, refl}
use Rattle.fuse_session.specs.StreamSteps.{sides}
use Rattle.fuse_session.specs.declared.port.Received.TheVariants.{Got, End, Failed}
use Rattle.fuse_session.proofs.Streams.{stream_gave}
use Rattle.fuse_session.proofs.stream.StreamPortPort.receive.Goals as goal

pub returns-in-Ok-eq0-clause-same : goal.returns-in-Ok-eq0-clause-same
returns-in-Ok-eq0-clause-same g c =
    stream_gave (sides g.R.Source.remaining g.W.Sink.contents g.R.Source.was_read g.W.Sink.was_written g.W.Sink.was_flushed)
    c.args.self.now _ End c.read_once.new.buffer (g.R.Source.remaining c.args.self.now.reader) (g.R.Source.remaining c.read_once.new.self) refl
    (search rules) (search rules)

pub returns-in-Ok-clause-same : goal.returns-in-Ok-clause-same
returns-in-Ok-clause-same g c =
    stream_gave (sides g.R.Source.remaining g.W.Sink.contents g.R.Source.was_read g.W.Sink.was_written g.W.Sink.was_flushed)
    c.args.self.now _ (Got c.in-Ok.n) c.read_once.new.buffer (g.R.Source.remaining c.args.self.now.reader) (g.R.Source.remaining c.read_once.new.self) refl
    (search rules) (search rules)

pub returns-in-Err-clause-same : goal.returns-in-Err-clause-same
returns-in-Err-clause-same g c =
    stream_gave (sides g.R.Source.remaining g.W.Sink.contents g.R.Source.was_read g.W.Sink.was_written g.W.Sink.was_flushed)
    c.args.self.now _ Failed c.read_once.new.buffer (g.R.Source.remaining c.args.self.now.reader) (g.R.Source.remaining c.read_once.new.self) refl
    (search rules) (search rules)
