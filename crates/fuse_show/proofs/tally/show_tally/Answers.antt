use Rattle.std.proofs.Common.{[], codes, refl}
use Rattle.fuse_show.proofs.Sinking.{takes_none, text_then, written_stop, written_ends}
use Rattle.fuse_show.proofs.tally.show_tally.Goals as goal

pub returns-in-Err-clause-shown : goal.returns-in-Err-clause-shown
returns-in-Err-clause-shown g c =
    written_stop g.W.Sink.was_written g.W.Sink.was_flushed _ _ _ c.in-Err.fault _ [] _ (codes "\n") (takes_none g.W.Sink.was_written _) refl c.in-Err.ensures.put

pub returns-clause-shown : goal.returns-clause-shown
returns-clause-shown g c =
    written_ends g.W.Sink.was_written g.W.Sink.was_flushed _ _ _ c.finish.result _ _ (codes "\n") (text_then g.W.Sink.was_written _ _ _ _ [] _ (takes_none g.W.Sink.was_written _) c.in-Ok.ensures.put) refl c.finish.ensures.ends
