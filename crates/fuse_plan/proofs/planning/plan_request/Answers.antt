use Rattle.std.proofs.Common.{not, refl, sym, ap, subst, ◌∙◌, rules}
use Rattle.fuse_request.specs.Act.{asked}
use Rattle.fuse_plan.specs.declared.planned.Planned.{Planned}
use Rattle.fuse_plan.specs.inner.Reading.{IsReported}
use Rattle.fuse_plan.proofs.Agreeing.{offers_nothing, looks_at_node, planned_for}
use Rattle.fuse_plan.proofs.Within.{none_outside}
use Rattle.fuse_plan.proofs.planning.plan_request.Goals as goal

pub returns-then-not-is_within : goal.returns-then-not-is_within
returns-then-not-is_within g c = record {
  reads = λ well clean rows is sees.
      let first = c.in_ok-agreement.ensures.looks refl in
      let clean_mid = g.met.L.Look.was_clean c.find_agreement.new.look c.find_node.new.look (c.in_ok-row.ensures.row.looks refl) clean in
      let agreed = (c.in_ok-agreement.ensures.reads refl clean_mid rows is sees).0 in
      let sees_mid = g.met.L.Look.kept c.args.look.now c.find_agreement.new.look first clean_mid rows sees in
      let row = (c.in_ok-row.ensures.row.reads refl clean rows is sees_mid).0 in (
        tt,
        λ _.
            none_outside rows c.in_ok-agreement.agreement c.args.request.now.header.nodeid c.in-Some.row is agreed (sym row ∙ c.in-Some.is)
            (sym c.is_within.ensures ∙ c.if-not-is_within.true),
      );
  fault = search rules;
  looks = search (rules, g.met.L.Look.and_then);
  fails = search (rules, g.met.L.Look.and_then, g.met.L.Look.and_fails, g.met.L.Look.or_less);
}

pub returns : goal.returns
returns g c = record {
  reads = λ well clean rows is sees.
      let first = c.in_ok-agreement.ensures.looks refl in
      let second = c.in_ok-row.ensures.row.looks refl in
      let clean_two = g.met.L.Look.was_clean c.find_node.new.look c.plan_op.new.look (c.plan_op.ensures.looks well) clean in
      let clean_one = g.met.L.Look.was_clean c.find_agreement.new.look c.find_node.new.look second clean_two in
      let agreed = (c.in_ok-agreement.ensures.reads refl clean_one rows is sees).0 in
      let sees_one = g.met.L.Look.kept c.args.look.now c.find_agreement.new.look first clean_one rows sees in
      let row = (c.in_ok-row.ensures.row.reads refl clean_two rows is sees_one).0 in
      let sees_two = g.met.L.Look.kept c.find_agreement.new.look c.find_node.new.look second clean_two rows sees_one in
      subst (λ (p : Planned). IsReported c.plan_op.result p)
      (sym (planned_for (asked c.args.request.now) c.args.now rows c.in_ok-agreement.agreement c.in-Some.row
      (offers_nothing c.args.request.now.op c.in_default.not-Init) (looks_at_node c.args.request.now.op c.in_default-op.not-Destroy) agreed
      (c.is_none.ensures ∙ ap not c.if-is_none.false) (sym c.in-Some.is ∙ row)))
      (c.plan_op.ensures.reads well clean rows is sees_two);
  fault = search rules;
  looks = search (rules, g.met.L.Look.and_then);
  fails = search (rules, g.met.L.Look.and_then, g.met.L.Look.and_fails, g.met.L.Look.or_less);
}
