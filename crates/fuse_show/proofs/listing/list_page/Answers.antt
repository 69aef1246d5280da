use Rattle.std.proofs.Common.{◌≡◌, ◌++◌, ℕ, List, Option, [], true, false, refl, sym, ap, ◌∙◌}
use Rattle.std.specs.List.{flat_map}
use Rattle.std.specs.Prelude.{Result, Err}
use Rattle.std.proofs.lemmas.Result.{err_from_is_err_and}
use Rattle.fuse_rows.specs.Rows.{Rows}
use Rattle.fuse_show.specs.Listing.{line_of_entry}
use Rattle.fuse_show.specs.declared.fault.ShowFault.{ShowFault}
use Rattle.fuse_show.specs.declared.fault.ShowFault.TheVariants.{NotATree}
use Rattle.fuse_show.specs.inner.Pages.{cookie_at, is_higher, lines_after, lines_left, WritesPage}
use Rattle.fuse_show.proofs.AnyLines.{lines_cut, none_part}
use Rattle.fuse_show.proofs.Failing.{look_failed}
use Rattle.fuse_show.proofs.Looking.{up_to_here, up_to_after}
use Rattle.fuse_show.proofs.Pages.{page_lines, page_higher}
use Rattle.fuse_show.proofs.Sinking.{puts_none, puts_ok, puts_err, part_in, part_none}
use Rattle.fuse_show.proofs.Trees.{page_shown}
use Rattle.fuse_show.proofs.listing.list_page.Goals as goal

pub returns-in_err-entries-clause-page : goal.returns-in_err-entries-clause-page
returns-in_err-entries-clause-page g c =
    let p = err_from_is_err_and c.from_residual.result c.from_residual.ensures.1 in
    look_failed g.W.Sink.was_written (g.L.Look.is_clean) (g.L.Look.looks) (g.L.Look.fails) (g.L.Look.sees) c.args.writer.now c.args.look.now _ c.from_residual.result _
    (λ (rows : Rows) (bytes : List ℕ) (r : Result (Option ℕ) ShowFault). WritesPage rows c.args.dir c.args.after bytes r)
    (g.met.L.Look.still _) c.in_err-entries.ensures.fails (p.1 ∙ ap Err p.2) (λ rows. (part_none _, refl))

pub returns-then-not-is_higher-clause-page : goal.returns-then-not-is_higher-clause-page
returns-then-not-is_higher-clause-page g c =
    puts_none g.W.Sink.was_written _ NotATree _ refl
    (up_to_here (g.L.Look.is_clean) (g.L.Look.looks) (g.L.Look.fails) (g.L.Look.sees) (λ s. g.met.L.Look.or_less s s (g.met.L.Look.still s)) _ _ _ _ c.in_ok-entries.ensures.looks (λ clean rows is sees.
    let same = c.as_slice.ensures.value ∙ c.in_ok-entries.ensures.rows clean rows is sees in
    let yes : is_higher (cookie_at 1023 c.as_slice.result.now) c.args.after ≡ true =
    page_higher rows c.args.dir c.args.after 1023 c.as_slice.result.now same in
    let no : is_higher (cookie_at 1023 c.as_slice.result.now) c.args.after ≡ false =
    ap (λ (k : Option ℕ). is_higher k c.args.after) (sym c.last_cookie-last.ensures) ∙ sym c.is_higher.ensures ∙ c.if-not-is_higher.true in
    absurd cc))

pub returns-in-Ok-clause-page : goal.returns-in-Ok-clause-page
returns-in-Ok-clause-page g c =
    let law = c.rows_of_trees.ensures in
    let first = c.in_ok-entries.ensures in
    let page = c.as_slice-2.result.now in
    let last : cookie_at 1023 page ≡ c.last_cookie-last.result =
    ap (cookie_at 1023) (c.as_slice-2.ensures.value ∙ sym c.as_slice.ensures.value) ∙ sym c.last_cookie-last.ensures in
    puts_ok g.W.Sink.was_written _ _ _ c.last_cookie-last.result _ _ c.in-Ok.ensures.lines (λ ys so.
    up_to_after (g.L.Look.is_clean) (g.L.Look.looks) (g.L.Look.fails) (g.L.Look.sees) g.met.L.Look.and_then g.met.L.Look.was_clean g.met.L.Look.kept _ _ _ _ _ _ _
    first.looks first.rows so (λ rows is p q.
    let same = c.as_slice-2.ensures.value ∙ p in
    page_lines law rows c.args.dir c.args.after 1023 page is same
    ∙ ap (λ (k : Option ℕ). flat_map (line_of_entry rows) page ++ lines_left rows c.args.dir k) last
    ∙ ap (λ (x : List ℕ). x ++ lines_left rows c.args.dir c.last_cookie-last.result) (sym (q (page_shown law rows c.args.dir c.args.after 1024 page is same)))))

pub returns-clause-page : goal.returns-clause-page
returns-clause-page g c =
    let law = c.rows_of_trees.ensures in
    let first = c.in_ok-entries.ensures in
    let page = c.as_slice-2.result.now in
    puts_err g.W.Sink.was_written _ _ c.in-Err.fault _ _ c.in-Err.ensures.lines (λ ys so.
    up_to_after (g.L.Look.is_clean) (g.L.Look.looks) (g.L.Look.fails) (g.L.Look.sees) g.met.L.Look.and_then g.met.L.Look.was_clean g.met.L.Look.kept _ _ _ _ _ _ _
    first.looks first.rows so (λ rows is p q.
    let same = c.as_slice-2.ensures.value ∙ p in
    let part = q (page_shown law rows c.args.dir c.args.after 1024 page is same) in (
      part_in [] ys (flat_map (line_of_entry rows) page) (lines_left rows c.args.dir (cookie_at 1023 page)) (lines_after rows c.args.dir c.args.after)
          (page_lines law rows c.args.dir c.args.after 1023 page is same) part.0,
      part.1,
    )))

pub returns-in_err-entries-clause-written : goal.returns-in_err-entries-clause-written
returns-in_err-entries-clause-written g c =
    let p = err_from_is_err_and c.from_residual.result c.from_residual.ensures.1 in
    lines_cut g.W.Sink.was_written c.args.writer.now c.from_residual.result _ (p.1 ∙ ap Err p.2) refl

pub returns-then-not-is_higher-clause-written : goal.returns-then-not-is_higher-clause-written
returns-then-not-is_higher-clause-written g c = puts_none g.W.Sink.was_written _ NotATree _ refl none_part

pub returns-in-Ok-clause-written : goal.returns-in-Ok-clause-written
returns-in-Ok-clause-written g c = puts_ok g.W.Sink.was_written _ _ _ c.last_cookie-last.result _ _ c.in-Ok.ensures.written (λ ys so. so)

pub returns-clause-written : goal.returns-clause-written
returns-clause-written g c = puts_err g.W.Sink.was_written _ _ c.in-Err.fault _ _ c.in-Err.ensures.written (λ ys so. so)
