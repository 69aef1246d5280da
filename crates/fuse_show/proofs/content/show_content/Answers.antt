use Rattle.std.proofs.Common.{List, ℕ, [], refl, inl, inr, sym, ◌∙◌}
use Rattle.fuse_show.specs.Paths.{names_of}
use Rattle.fuse_show.specs.Shown.{ShowsContent}
use Rattle.fuse_show.specs.declared.fault.ShowFault.TheVariants.{NotFile}
use Rattle.fuse_show.specs.Content.{content_at}
use Rattle.fuse_show.proofs.Walks.{leads_there}
use Rattle.fuse_show.proofs.Looking.{up_to_here, up_to_after}
use Rattle.fuse_show.proofs.Shows.{prints_none, content_cut, not_found}
use Rattle.fuse_show.proofs.Sinking.{takes_none, puts_taken, part_of, outputs_none, outputs_stop, outputs_all, outputs_unflushed, finding_quiet}
use Rattle.fuse_show.proofs.content.show_content.Goals as goal

pub returns-in-Err-clause-shown : goal.returns-in-Err-clause-shown
returns-in-Err-clause-shown g c =
    let names = names_of c.args.path.now in
    outputs_none g.W.Sink.was_written g.W.Sink.was_flushed _ c.in-Err.fault _ (finding_quiet c.in-Err.fault c.in-Err.ensures.reasons)
    (not_found (g.L.Look.is_clean) (g.L.Look.looks) (g.L.Look.fails) (g.L.Look.sees) _ _ (g.met.L.Look.still _) c.in-Err.ensures.looked.fails (λ s. g.met.L.Look.or_less s s (g.met.L.Look.still s)) names c.in-Err.fault
    (λ rows bytes r. ShowsContent rows names bytes r) (λ rows is. prints_none rows names c.in-Err.fault is) (λ rows e. inl refl)
    c.in-Err.ensures.looked.looks c.in-Err.ensures.found)

pub returns-then-not-is_regular_file-clause-shown : goal.returns-then-not-is_regular_file-clause-shown
returns-then-not-is_regular_file-clause-shown g c =
    outputs_none g.W.Sink.was_written g.W.Sink.was_flushed _ NotFile _ refl
    (up_to_here (g.L.Look.is_clean) (g.L.Look.looks) (g.L.Look.fails) (g.L.Look.sees) (λ s. g.met.L.Look.or_less s s (g.met.L.Look.still s)) _ _ _ _ (c.in-Ok.ensures.looked.looks refl) (λ clean rows is sees. (
      (record {
        place = c.in-Ok.place;
        leads = c.in-Ok.ensures.found clean rows is sees;
        tested = sym c.is_regular_file.ensures ∙ c.if-not-is_regular_file.true;
      }),
      refl,
    )))

pub returns-in-Err-copy-clause-shown : goal.returns-in-Err-copy-clause-shown
returns-in-Err-copy-clause-shown g c =
    outputs_stop g.W.Sink.was_written g.W.Sink.was_flushed _ _ _ c.in-Err-copy.fault _ _ [] (takes_none g.W.Sink.was_written _)
    c.in-Err-copy.ensures.copied (λ ys so.
    up_to_after (g.L.Look.is_clean) (g.L.Look.looks) (g.L.Look.fails) (g.L.Look.sees) g.met.L.Look.and_then g.met.L.Look.was_clean g.met.L.Look.kept _ _ _ _ _ _ _
    (c.in-Ok.ensures.looked.looks refl) c.in-Ok.ensures.found so (λ rows is p q.
    content_cut rows (names_of c.args.path.now) ys c.in-Err-copy.fault
    (record { place = c.in-Ok.place; leads = p; tested = sym c.is_regular_file.ensures ∙ c.if-not-is_regular_file.false }) (q (leads_there rows _ _ p))))

pub returns-in-Ok-flush_once-clause-shown : goal.returns-in-Ok-flush_once-clause-shown
returns-in-Ok-flush_once-clause-shown g c =
    let put = c.in-Ok-copy.ensures.copied in
    outputs_all g.W.Sink.was_written g.W.Sink.was_flushed _ _ _ _ put.bytes (puts_taken g.W.Sink.was_written _ _ _ _ put)
    c.in-Ok-flush_once.ensures.once
    (up_to_after (g.L.Look.is_clean) (g.L.Look.looks) (g.L.Look.fails) (g.L.Look.sees) g.met.L.Look.and_then g.met.L.Look.was_clean g.met.L.Look.kept _ _ _ _ _ _ _
    (c.in-Ok.ensures.looked.looks refl) c.in-Ok.ensures.found put.so (λ rows is p q. (
      record { place = c.in-Ok.place; leads = p; tested = sym c.is_regular_file.ensures ∙ c.if-not-is_regular_file.false },
      (q (leads_there rows _ _ p)),
    )))

pub returns-in-Err-flush_once-clause-shown : goal.returns-in-Err-flush_once-clause-shown
returns-in-Err-flush_once-clause-shown g c =
    let put = c.in-Ok-copy.ensures.copied in
    outputs_unflushed g.W.Sink.was_written g.W.Sink.was_flushed _ _ _ _ _ put.bytes (puts_taken g.W.Sink.was_written _ _ _ _ put)
    c.in-Err-flush_once.ensures.once
    (up_to_after (g.L.Look.is_clean) (g.L.Look.looks) (g.L.Look.fails) (g.L.Look.sees) g.met.L.Look.and_then g.met.L.Look.was_clean g.met.L.Look.kept _ _ _ _ _ _ _
    (c.in-Ok.ensures.looked.looks refl) c.in-Ok.ensures.found put.so (λ rows is p q. (
      record { place = c.in-Ok.place; leads = p; tested = sym c.is_regular_file.ensures ∙ c.if-not-is_regular_file.false },
      part_of put.bytes (content_at rows c.in-Ok.place.node) ((q (leads_there rows _ _ p))),
    )))
