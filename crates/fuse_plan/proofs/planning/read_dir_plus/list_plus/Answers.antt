use Rattle.std.proofs.Common.{None, rules, refl, sym, ap, ◌∙◌, map}
use Rattle.fuse_rows.specs.Rows.{entries_after}
use Rattle.fuse_plan.specs.inner.PlanPlus.{listed_plus}
use Rattle.fuse_plan.proofs.ShownRows.{all_shown}
use Rattle.fuse_plan.proofs.Shown.{made_of}
use Rattle.fuse_plan.proofs.planning.read_dir_plus.list_plus.Goals as goal

pub returns : goal.returns
returns g c =
    let first = c.in_ok-children.ensures in
    let second = c.list_plus_after.ensures in
    let looks = first.looked.looks (refl {a = None}) in
    record {
      reads = λ well clean rows is sees.
          let at = c.as_slice.ensures.value ∙ (first.rows (refl {a = None}) clean rows is sees).0 in
          let shown = all_shown rows c.args.row.now.node c.args.offset _ c.as_slice.result.now is at in
          let told = ap (map (listed_plus c.args.valid)) at ∙ made_of (listed_plus c.args.valid) rows (entries_after rows c.args.row.now.node c.args.offset _) in
          rw (sym c.in_ok-dirents.ensures.entries, sym told) (second.plan shown);
      fault = first.looked.fault ∙ sym second.looked;
      looks = λ well. looks;
      fails = search (rules, g.met.L.Look.or_less);
    }
