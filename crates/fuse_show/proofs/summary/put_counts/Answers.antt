use Rattle.std.proofs.Common.{[], codes, refl}
use Rattle.fuse_show.proofs.Sinking.{takes_none, text_stop, text_then, text_ends}
use Rattle.fuse_show.proofs.summary.put_counts.Goals as goal

pub returns-in-Err-clause-put : goal.returns-in-Err-clause-put
returns-in-Err-clause-put g c =
    text_stop g.W.Sink.was_written _ _ _ c.in-Err.fault _ [] _ (codes "\n") (takes_none g.W.Sink.was_written _) refl c.in-Err.ensures.put

pub returns-clause-put : goal.returns-clause-put
returns-clause-put g c =
    text_ends g.W.Sink.was_written _ _ _ c.put.result _ _ (codes "\n") (text_then g.W.Sink.was_written _ _ _ _ [] _ (takes_none g.W.Sink.was_written _) c.in-Ok.ensures.put) refl c.put.ensures.put
