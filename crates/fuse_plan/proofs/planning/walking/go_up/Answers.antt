use Rattle.std.proofs.Common.{None, rules, refl, sym}
use Rattle.fuse_plan.proofs.Walking.{leads_at, leads_no_more, above_next, leads_next}
use Rattle.fuse_plan.proofs.planning.walking.go_up.Goals as goal

pub returns-then-place-node-clause-under : goal.returns-then-place-node-clause-under
returns-then-place-node-clause-under g c = λ _ clean rows is sees ends.
    let way = c.loop-step.invariant.way clean rows is sees in
    (sym (leads_at rows c.args.places c.loop-step._step c.args.node c.args.dir c.loop-step.place c.loop-step-test.true way.0 c.if-place-node.true), tt)

pub returns-then-place-eq0-clause-under : goal.returns-then-place-eq0-clause-under
returns-then-place-eq0-clause-under g c = λ _ clean rows is sees ends.
    let way = c.loop-step.invariant.way clean rows is sees in (
      sym (leads_no_more rows c.args.places c.loop-step._step c.args.node c.args.dir c.loop-step.place is c.loop-step.auto._step-end way.0 c.if-place-eq0.true
          c.if-place-node.false way.1),
      tt,
    )

pub returns-in_err-place-clause-looked : goal.returns-in_err-place-clause-looked
returns-in_err-place-clause-looked g c = record {
  fault = search rules;
  looks = search (rules, g.met.L.Look.and_then, c.loop-step.invariant.looks);
  fails = search (rules, g.met.L.Look.and_fails, c.loop-step.invariant.looks);
}

pub loop-step-preserved : goal.loop-step-preserved
loop-step-preserved g c = record {
  fault = c.in_ok-place.ensures.fault;
  looks = g.met.L.Look.and_then _ _ _ c.loop-step.invariant.looks (c.in_ok-place.ensures.looks refl);
  way = λ clean rows is sees.
      let clean_before = g.met.L.Look.was_clean _ _ (c.in_ok-place.ensures.looks refl) clean in
      let sees_before = g.met.L.Look.kept _ _ c.loop-step.invariant.looks clean_before rows sees in
      let way = c.loop-step.invariant.way clean_before rows is sees in
      let up = (c.in_ok-place.ensures.reads (refl {a = None}) clean rows is sees_before).0 in (
        above_next rows c.loop-step._step c.args.dir c.loop-step.place c.in_ok-place.place way.0 (sym up),
        leads_next rows c.loop-step._step c.args.node c.args.dir c.loop-step.place way.0 c.if-place-node.false way.1,
      );
}
