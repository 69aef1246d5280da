use Rattle.fuse_session.specs.StreamSteps.{sides}
use Rattle.alone_source.proofs.Groups.{always_alone, always_alone_stream}
use Rattle.alone_source.proofs.laws.groups_alone.Goals as goal

pub returns-clause-device : goal.returns-clause-device
returns-clause-device g c =
    always_alone
    (record { numbers = c.numbers_read.ensures; one = c.one_cut.ensures; joins = c.cut_joins.ensures; steps = c.cut_steps.ensures })
    g.S.Source.was_read g.W.Sink.was_written

pub returns-clause-stream : goal.returns-clause-stream
returns-clause-stream g c =
    always_alone_stream
    (record { numbers = c.numbers_read.ensures; one = c.one_cut.ensures; joins = c.cut_joins.ensures; steps = c.cut_steps.ensures })
    (sides g.S.Source.remaining g.W.Sink.contents g.S.Source.was_read g.W.Sink.was_written g.W.Sink.was_flushed)
