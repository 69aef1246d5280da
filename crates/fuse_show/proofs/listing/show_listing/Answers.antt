use Rattle.std.proofs.Common.{List, ℕ, [], refl, inl, inr, sym, ◌∙◌}
use Rattle.fuse_show.specs.Paths.{names_of}
use Rattle.fuse_show.specs.Shown.{ShowsListing}
use Rattle.fuse_show.specs.declared.fault.ShowFault.TheVariants.{NotDirectory}
use Rattle.fuse_show.specs.Listing.{listing}
use Rattle.fuse_show.proofs.AnyLines.{all_part, none_part}
use Rattle.fuse_show.proofs.Looking.{up_to_here, up_to_after}
use Rattle.fuse_show.proofs.Shows.{lists_none, listing_cut, not_found}
use Rattle.fuse_show.proofs.Sinking.{takes_none, puts_taken, part_of, outputs_none, outputs_stop, outputs_all, outputs_unflushed, finding_quiet}
use Rattle.fuse_show.proofs.listing.show_listing.Goals as goal

pub returns-in-Err-clause-shown : goal.returns-in-Err-clause-shown
returns-in-Err-clause-shown g c =
    let names = names_of c.args.path.now in
    outputs_none g.W.Sink.was_written g.W.Sink.was_flushed _ c.in-Err.fault _ (finding_quiet c.in-Err.fault c.in-Err.ensures.reasons)
    (not_found (g.L.Look.is_clean) (g.L.Look.looks) (g.L.Look.fails) (g.L.Look.sees) _ _ (g.met.L.Look.still _) c.in-Err.ensures.looked.fails (λ s. g.met.L.Look.or_less s s (g.met.L.Look.still s)) names c.in-Err.fault
    (λ rows bytes r. ShowsListing rows names bytes r) (λ rows is. lists_none rows names c.in-Err.fault is) (λ rows e. inl refl)
    c.in-Err.ensures.looked.looks c.in-Err.ensures.found)

pub returns-then-not-is_directory-clause-shown : goal.returns-then-not-is_directory-clause-shown
returns-then-not-is_directory-clause-shown g c =
    outputs_none g.W.Sink.was_written g.W.Sink.was_flushed _ NotDirectory _ refl
    (up_to_here (g.L.Look.is_clean) (g.L.Look.looks) (g.L.Look.fails) (g.L.Look.sees) (λ s. g.met.L.Look.or_less s s (g.met.L.Look.still s)) _ _ _ _ (c.in-Ok.ensures.looked.looks refl) (λ clean rows is sees. (
      inr (record {
        place = c.in-Ok.place;
        leads = c.in-Ok.ensures.found clean rows is sees;
        tested = sym c.is_directory.ensures ∙ c.if-not-is_directory.true;
      }),
      refl,
    )))

pub returns-in-Err-list-clause-shown : goal.returns-in-Err-list-clause-shown
returns-in-Err-list-clause-shown g c =
    outputs_stop g.W.Sink.was_written g.W.Sink.was_flushed _ _ _ c.in-Err-list.fault _ _ [] (takes_none g.W.Sink.was_written _)
    c.in-Err-list.ensures.listed (λ ys so.
    up_to_after (g.L.Look.is_clean) (g.L.Look.looks) (g.L.Look.fails) (g.L.Look.sees) g.met.L.Look.and_then g.met.L.Look.was_clean g.met.L.Look.kept _ _ _ _ _ _ _
    (c.in-Ok.ensures.looked.looks refl) c.in-Ok.ensures.found so (λ rows is p q.
    listing_cut rows (names_of c.args.path.now) ys c.in-Err-list.fault
    (record { place = c.in-Ok.place; leads = p; tested = sym c.is_directory.ensures ∙ c.if-not-is_directory.false }) q))

pub returns-in-Ok-flush_once-clause-shown : goal.returns-in-Ok-flush_once-clause-shown
returns-in-Ok-flush_once-clause-shown g c =
    let put = c.in-Ok-list.ensures.listed in
    outputs_all g.W.Sink.was_written g.W.Sink.was_flushed _ _ _ _ put.bytes (puts_taken g.W.Sink.was_written _ _ _ _ put)
    c.in-Ok-flush_once.ensures.once
    (up_to_after (g.L.Look.is_clean) (g.L.Look.looks) (g.L.Look.fails) (g.L.Look.sees) g.met.L.Look.and_then g.met.L.Look.was_clean g.met.L.Look.kept _ _ _ _ _ _ _
    (c.in-Ok.ensures.looked.looks refl) c.in-Ok.ensures.found put.so (λ rows is p q. (
      record { place = c.in-Ok.place; leads = p; tested = sym c.is_directory.ensures ∙ c.if-not-is_directory.false },
      q,
    )))

pub returns-in-Err-flush_once-clause-shown : goal.returns-in-Err-flush_once-clause-shown
returns-in-Err-flush_once-clause-shown g c =
    let put = c.in-Ok-list.ensures.listed in
    outputs_unflushed g.W.Sink.was_written g.W.Sink.was_flushed _ _ _ _ _ put.bytes (puts_taken g.W.Sink.was_written _ _ _ _ put)
    c.in-Err-flush_once.ensures.once
    (up_to_after (g.L.Look.is_clean) (g.L.Look.looks) (g.L.Look.fails) (g.L.Look.sees) g.met.L.Look.and_then g.met.L.Look.was_clean g.met.L.Look.kept _ _ _ _ _ _ _
    (c.in-Ok.ensures.looked.looks refl) c.in-Ok.ensures.found put.so (λ rows is p q. (
      record { place = c.in-Ok.place; leads = p; tested = sym c.is_directory.ensures ∙ c.if-not-is_directory.false },
      part_of put.bytes (listing rows c.in-Ok.place.node) (q),
    )))

pub returns-in-Err-clause-written : goal.returns-in-Err-clause-written
returns-in-Err-clause-written g c =
    outputs_none g.W.Sink.was_written g.W.Sink.was_flushed _ c.in-Err.fault _ (finding_quiet c.in-Err.fault c.in-Err.ensures.reasons) none_part

pub returns-then-not-is_directory-clause-written : goal.returns-then-not-is_directory-clause-written
returns-then-not-is_directory-clause-written g c = outputs_none g.W.Sink.was_written g.W.Sink.was_flushed _ NotDirectory _ refl none_part

pub returns-in-Err-list-clause-written : goal.returns-in-Err-list-clause-written
returns-in-Err-list-clause-written g c =
    outputs_stop g.W.Sink.was_written g.W.Sink.was_flushed _ _ _ c.in-Err-list.fault _ _ [] (takes_none g.W.Sink.was_written _)
    c.in-Err-list.ensures.written (λ ys so. so)

pub returns-in-Ok-flush_once-clause-written : goal.returns-in-Ok-flush_once-clause-written
returns-in-Ok-flush_once-clause-written g c =
    let put = c.in-Ok-list.ensures.written in
    outputs_all g.W.Sink.was_written g.W.Sink.was_flushed _ _ _ _ put.bytes (puts_taken g.W.Sink.was_written _ _ _ _ put)
    c.in-Ok-flush_once.ensures.once put.so

pub returns-in-Err-flush_once-clause-written : goal.returns-in-Err-flush_once-clause-written
returns-in-Err-flush_once-clause-written g c =
    let put = c.in-Ok-list.ensures.written in
    outputs_unflushed g.W.Sink.was_written g.W.Sink.was_flushed _ _ _ _ _ put.bytes (puts_taken g.W.Sink.was_written _ _ _ _ put)
    c.in-Err-flush_once.ensures.once (all_part put.bytes put.so)
