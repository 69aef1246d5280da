use Rattle.std.proofs.Common.{rules, ap, ℕ, not, ◌∙◌, eqb, length, List}
use Rattle.fuse_rows.specs.declared.rows.EntryRow.{EntryRow}
use Rattle.fuse_plan.proofs.Bounds.{entries_told}
use Rattle.fuse_plan.proofs.planning.finding.has_entries.Goals as goal

pub returns : goal.returns
returns g c = record {
  reads = λ well clean rows is sees.
      let told = c.in_ok-entries_after.ensures.rows clean rows is sees in (
        ap not c.is_empty.ensures ∙ ap (λ (n : ℕ). not (eqb n 0)) c.in_ok-entries_after.field-0.ok.0 ∙ ap (λ (es : List EntryRow). not (eqb (length es) 0)) told
            ∙ entries_told rows c.args.dir is,
        tt,
      );
  fault = search rules;
  looks = search rules;
  fails = search rules;
}
