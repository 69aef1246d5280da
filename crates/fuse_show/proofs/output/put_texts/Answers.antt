use Rattle.std.proofs.Common.{Bor, ℕ, List, refl}
use Rattle.fuse_show.proofs.Sinking.{each_then, each_stop}
use Rattle.fuse_show.proofs.output.put_texts.Goals as goal

pub loop-text-preserved : goal.loop-text-preserved
loop-text-preserved g c =
    each_then g.W.Sink.was_written _ _ _ _ (λ (t : Bor (List ℕ)). t.now) c.args.texts.now c.loop-text.text-index _ _ _ c.loop-text-test.true refl c.as_bytes.ensures.value
    c.loop-text.invariant c.in-Ok.ensures.put

pub returns-in-Err-clause-put : goal.returns-in-Err-clause-put
returns-in-Err-clause-put g c =
    each_stop g.W.Sink.was_written _ _ _ c.in-Err.fault (λ (t : Bor (List ℕ)). t.now) c.args.texts.now c.loop-text.text-index _ _ _ c.loop-text-test.true refl
    c.as_bytes.ensures.value c.loop-text.invariant c.in-Err.ensures.put
