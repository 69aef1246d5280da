use Rattle.std.proofs.Common.{sym, ◌∙◌}
use Rattle.fuse_show.proofs.Trees.{child_row}
use Rattle.fuse_show.proofs.lookup.step.Goals as goal

pub returns-in_default-2-clause-found : goal.returns-in_default-2-clause-found
returns-in_default-2-clause-found g c = λ clean rows is sees.
    let first = c.in_ok-entry.ensures in
    let second = c.in_ok-row.ensures in
    let clean_before = g.met.L.Look.was_clean _ _ second.looks clean in
    let sees_before = g.met.L.Look.kept _ _ first.looks clean_before rows sees in
    child_row c.rows_of_trees.ensures rows c.args.from.now.node c.args.name.now c.in-Some.entry is
    (sym (first.row clean_before rows is sees) ∙ c.in-Some.is)
    (sym (second.row clean rows is sees_before) ∙ c.in_default-2.is)
