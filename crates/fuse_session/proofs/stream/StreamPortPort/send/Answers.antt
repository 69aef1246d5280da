use Rattle.std.proofs.Common.{rules, refl}
use Rattle.fuse_session.specs.StreamSteps.{sides}
use Rattle.fuse_session.specs.declared.port.Sent.TheVariants.{Took, Failed}
use Rattle.fuse_session.proofs.Streams.{stream_took}
use Rattle.fuse_session.proofs.stream.StreamPortPort.send.Goals as goal

pub returns-in_default-clause-same : goal.returns-in_default-clause-same
returns-in_default-clause-same g c =
    stream_took (sides g.R.Source.remaining g.W.Sink.contents g.R.Source.was_read g.W.Sink.was_written g.W.Sink.was_flushed)
    c.args.self.now _ c.args.bytes.now Failed refl (search rules) (search rules)

pub returns-then-is_err-clause-same : goal.returns-then-is_err-clause-same
returns-then-is_err-clause-same g c =
    stream_took (sides g.R.Source.remaining g.W.Sink.contents g.R.Source.was_read g.W.Sink.was_written g.W.Sink.was_flushed)
    c.args.self.now _ c.args.bytes.now Failed refl (search rules) (search rules)

pub returns-then-not-is_empty-clause-same : goal.returns-then-not-is_empty-clause-same
returns-then-not-is_empty-clause-same g c =
    stream_took (sides g.R.Source.remaining g.W.Sink.contents g.R.Source.was_read g.W.Sink.was_written g.W.Sink.was_flushed)
    c.args.self.now _ c.args.bytes.now (Took c.in-Ok.n) refl (search rules) (search rules)

pub returns-else-n-eq0-clause-same : goal.returns-else-n-eq0-clause-same
returns-else-n-eq0-clause-same g c =
    stream_took (sides g.R.Source.remaining g.W.Sink.contents g.R.Source.was_read g.W.Sink.was_written g.W.Sink.was_flushed)
    c.args.self.now c.else-n-eq0.self c.args.bytes.now (Took c.in-Ok.n) (search rules) (search rules) (search rules)
