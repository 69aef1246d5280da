use Rattle.std.proofs.Common.{ℕ, List, refl, sym, ap, subst, ◌∙◌}
use Rattle.std.specs.Prelude.{Result, Err}
use Rattle.std.proofs.lemmas.Result.{err_from_is_err_and}
use Rattle.fuse_rows.specs.Rows.{Rows}
use Rattle.fuse_tree.specs.RowsOfTrees.{LeadsToRow}
use Rattle.fuse_show.specs.Listing.{entry_line, line_for, line_of_entry}
use Rattle.fuse_show.specs.declared.fault.ShowFault.{ShowFault}
use Rattle.fuse_show.specs.declared.fault.ShowFault.TheVariants.{NotATree}
use Rattle.fuse_show.specs.inner.Writing.{WritesOut}
use Rattle.fuse_show.proofs.AnyLines.{line_written, lines_cut, none_part, puts_more}
use Rattle.fuse_show.proofs.Failing.{look_failed}
use Rattle.fuse_show.proofs.Looking.{up_to_here}
use Rattle.fuse_show.proofs.Sinking.{puts_none, part_none}
use Rattle.fuse_show.proofs.listing.show_entry.Goals as goal

pub returns-in_err-row-clause-line : goal.returns-in_err-row-clause-line
returns-in_err-row-clause-line g c =
    let p = err_from_is_err_and c.from_residual.result c.from_residual.ensures.1 in
    look_failed g.W.Sink.was_written (g.L.Look.is_clean) (g.L.Look.looks) (g.L.Look.fails) (g.L.Look.sees) c.args.writer.now c.args.look.now _ c.from_residual.result _
    (λ (rows : Rows) (bytes : List ℕ) (r : Result (Unit {0}) ShowFault). LeadsToRow rows c.args.entry.now → WritesOut (line_of_entry rows c.args.entry.now) bytes r)
    (g.met.L.Look.still _) c.in_err-row.ensures.fails (p.1 ∙ ap Err p.2) (λ rows leads. (part_none _, refl))

pub returns-in_default-clause-line : goal.returns-in_default-clause-line
returns-in_default-clause-line g c =
    puts_none g.W.Sink.was_written _ NotATree _ refl
    (up_to_here (g.L.Look.is_clean) (g.L.Look.looks) (g.L.Look.fails) (g.L.Look.sees) (λ s. g.met.L.Look.or_less s s (g.met.L.Look.still s)) _ _ _ _ c.in_ok-row.ensures.looks (λ clean rows is sees leads.
    absurd (leads (sym (c.in_ok-row.ensures.row clean rows is sees) ∙ c.in_default.is))))

pub returns-clause-line : goal.returns-clause-line
returns-clause-line g c =
    puts_more g.W.Sink.was_written _ _ c.write_entry.result _ _ c.write_entry.ensures.put (λ ys so.
    up_to_here (g.L.Look.is_clean) (g.L.Look.looks) (g.L.Look.fails) (g.L.Look.sees) (λ s. g.met.L.Look.or_less s s (g.met.L.Look.still s)) _ _ _ _
    c.in_ok-row.ensures.looks (λ clean rows is sees leads.
    subst (λ (line : List ℕ). WritesOut line ys c.write_entry.result)
    (ap (λ (name : List ℕ). entry_line name c.in-Some.row) c.as_slice.ensures
    ∙ ap (line_for c.args.entry.now.name) (sym c.in-Some.is ∙ c.in_ok-row.ensures.row clean rows is sees)) so))

pub returns-in_err-row-clause-written : goal.returns-in_err-row-clause-written
returns-in_err-row-clause-written g c =
    let p = err_from_is_err_and c.from_residual.result c.from_residual.ensures.1 in
    lines_cut g.W.Sink.was_written c.args.writer.now c.from_residual.result _ (p.1 ∙ ap Err p.2) refl

pub returns-in_default-clause-written : goal.returns-in_default-clause-written
returns-in_default-clause-written g c = puts_none g.W.Sink.was_written _ NotATree _ refl none_part

pub returns-clause-written : goal.returns-clause-written
returns-clause-written g c =
    puts_more g.W.Sink.was_written _ _ c.write_entry.result _ _ c.write_entry.ensures.put (λ ys so. line_written c.write_entry.result c.as_slice.result.now c.in-Some.row ys so)
