use Rattle.std.proofs.Common.{rules, sym, ◌∙◌, refl}
use Rattle.fuse_plan.proofs.Bounds.{child_row}
use Rattle.fuse_plan.proofs.planning.finding.find_link.Goals as goal

pub returns-in_default-2-clause-row : goal.returns-in_default-2-clause-row
returns-in_default-2-clause-row g c = record {
  reads = λ well clean rows is sees.
      let looks = c.in_ok-child.ensures.row.looks refl in
      let clean_mid = g.met.L.Look.was_clean c.find_entry.new.look c.find_node.new.look looks clean in
      let entry = (c.in_ok-entry.ensures.reads refl clean_mid rows is sees).0 in
      let sees_mid = g.met.L.Look.kept c.args.look.now c.find_entry.new.look (c.in_ok-entry.ensures.looks refl) clean_mid rows sees in
      let child = (c.in_ok-child.ensures.row.reads refl clean rows is sees_mid).0 in
      (tt, λ _. child_row rows c.args.dir c.args.name.now c.in-Some.entry is (sym entry ∙ c.in-Some.is) (sym child ∙ c.in_default-2.is));
  fault = search rules;
  looks = search (rules, g.met.L.Look.and_then);
  fails = search (rules, g.met.L.Look.and_then, g.met.L.Look.and_fails, g.met.L.Look.or_less);
}
