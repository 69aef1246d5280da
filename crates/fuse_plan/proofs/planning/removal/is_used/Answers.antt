use Rattle.std.proofs.Common.{rules, ap, ℕ, not, ◌∙◌, eqb, length, List}
use Rattle.fuse_rows.specs.declared.rows.HandleRow.{HandleRow}
use Rattle.fuse_plan.proofs.RemovalAgrees.{used_told}
use Rattle.fuse_plan.proofs.planning.removal.is_used.Goals as goal

pub returns : goal.returns
returns g c = record {
  reads = λ well clean rows is sees.
      let told = c.in_ok-handles_of.ensures.rows clean rows is sees in (
        ap not c.is_empty.ensures ∙ ap (λ (n : ℕ). not (eqb n 0)) c.in_ok-handles_of.field-0.ok.0 ∙ ap (λ (hs : List HandleRow). not (eqb (length hs) 0)) told
            ∙ used_told rows.handles c.args.node,
        tt,
      );
  fault = search rules;
  looks = search rules;
  fails = search rules;
}
