use Rattle.std.proofs.Common.{◌++◌, ℕ, List, [], decimal, sym, ap, ◌∙◌}
use Rattle.fuse_show.proofs.Sinking.{takes_none, text_stop, text_then, text_ends}
use Rattle.fuse_show.proofs.output.put_field.Goals as goal

pub returns-in-Err-clause-put : goal.returns-in-Err-clause-put
returns-in-Err-clause-put g c =
    text_stop g.W.Sink.was_written _ _ _ c.in-Err.fault _ [] _ (decimal c.args.number) (takes_none g.W.Sink.was_written _)
    (ap (λ (y : List ℕ). y ++ decimal c.args.number) (sym c.as_bytes.ensures.value)) c.in-Err.ensures.put

pub returns-clause-put : goal.returns-clause-put
returns-clause-put g c =
    text_ends g.W.Sink.was_written _ _ _ c.put-2.result _ _ _ (text_then g.W.Sink.was_written _ _ _ _ [] _ (takes_none g.W.Sink.was_written _) c.in-Ok.ensures.put)
    (ap (λ (y : List ℕ). y ++ decimal c.args.number) (sym c.as_bytes.ensures.value)
    ∙ ap (λ (y : List ℕ). c.as_bytes.result.now ++ y) (sym c.format.ensures.text ∙ sym c.as_bytes-2.ensures.value)) c.put-2.ensures.put
