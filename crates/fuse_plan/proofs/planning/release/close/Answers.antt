use Rattle.std.proofs.Common.{◌≡◌, None, true, refl, sym, ap, ◌∙◌, rules}
use Rattle.fuse_tree.specs.Handles.{is_open}
use Rattle.fuse_plan.proofs.Bounds.{handle_counted}
use Rattle.fuse_plan.proofs.planning.release.close.Goals as goal

pub returns-then-counters-eq0 : goal.returns-then-counters-eq0
returns-then-counters-eq0 g c =
    let first = c.in_ok-is_open_at.ensures in
    let second = c.in_ok-counters.ensures in
    let looks = first.looks (refl {a = None}) in
    let later = second.looks (refl {a = None}) in
    record {
      reads = λ well clean rows is sees.
          let clean_before = g.met.L.Look.was_clean c.is_open_at.new.look c.find_counters.new.look later clean in
          let sees_before = g.met.L.Look.kept c.args.look.now c.is_open_at.new.look looks clean_before rows sees in
          let there : is_open rows.handles c.args.fh c.args.row.now.node ≡ true =
          sym (first.reads (refl {a = None}) clean_before rows is sees).0 ∙ c.if-not-branch.false in
          let none : rows.counters.handles ≡ 0 =
          ap (λ x. x.handles) (sym (second.reads (refl {a = None}) clean rows is sees_before).0) ∙ c.if-counters-eq0.true in
          (tt, λ _. handle_counted rows c.args.fh c.args.row.now.node is there none);
      fault = second.fault;
      looks = λ well. g.met.L.Look.and_then c.args.look.now c.is_open_at.new.look c.find_counters.new.look looks later;
      fails = search (rules, g.met.L.Look.and_then, g.met.L.Look.and_fails, g.met.L.Look.or_less);
    }
