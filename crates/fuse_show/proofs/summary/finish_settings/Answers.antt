use Rattle.std.proofs.Common.{[], codes, refl, ap}
use Rattle.fuse_show.specs.Summary.{settings_text}
use Rattle.fuse_show.proofs.Sinking.{takes_none, text_then, written_stop, written_ends}
use Rattle.fuse_show.proofs.Texts.{settings_parts}
use Rattle.fuse_show.proofs.summary.finish_settings.Goals as goal

pub returns-in_default-clause-ends : goal.returns-in_default-clause-ends
returns-in_default-clause-ends g c =
    written_ends g.W.Sink.was_written g.W.Sink.was_flushed _ _ _ c.finish.result _ [] _ (takes_none g.W.Sink.was_written _) (ap settings_text c.in_default.is) c.finish.ensures.ends

pub returns-in-Err-clause-ends : goal.returns-in-Err-clause-ends
returns-in-Err-clause-ends g c =
    written_stop g.W.Sink.was_written g.W.Sink.was_flushed _ _ _ c.in-Err.fault _ [] _ (codes "\n") (takes_none g.W.Sink.was_written _)
    (settings_parts c.args.agreed c.in-Some.settings _ _ c.in-Some.is c.from.ensures c.from-2.ensures) c.in-Err.ensures.put

pub returns-clause-ends : goal.returns-clause-ends
returns-clause-ends g c =
    written_ends g.W.Sink.was_written g.W.Sink.was_flushed _ _ _ c.finish-2.result _ _ (codes "\n") (text_then g.W.Sink.was_written _ _ _ _ [] _ (takes_none g.W.Sink.was_written _) c.in-Ok.ensures.put)
    (settings_parts c.args.agreed c.in-Some.settings _ _ c.in-Some.is c.from.ensures c.from-2.ensures) c.finish-2.ensures.ends
