use Rattle.std.proofs.Common.{refl}
use Rattle.fuse_show.proofs.Walks.{went_none, went_more, went_all, stop_if, no_root}
use Rattle.fuse_show.specs.Paths.{names_of}
use Rattle.fuse_show.proofs.lookup.find.Goals as goal

pub loop-name-init : goal.loop-name-init
loop-name-init g c =
    let root = c.in-Ok.ensures in
    record { fault = root.looked.fault; looks = root.looked.looks refl; went = went_none _ _ c.args.path.now c.in-Ok.root root.found }

pub loop-name-preserved : goal.loop-name-preserved
loop-name-preserved g c =
    let before = c.loop-name.invariant in
    let one = c.in-Ok-step.ensures in
    let looks = one.looked.looks refl in
    record {
      fault = one.looked.fault;
      looks = g.met.L.Look.and_then _ _ _ before.looks looks;
      went = went_more _ _ _ _ c.args.path.now c.loop-name.rest.now c.in-Some.name.now c.in-Some.after.now c.loop-name.place c.in-Ok-step.row before.went
          c.in-Some.ensures.some.0 (g.met.L.Look.was_clean _ _ looks) (g.met.L.Look.kept _ _ before.looks) one.found;
    }

pub returns-in-Err-clause-found : goal.returns-in-Err-clause-found
returns-in-Err-clause-found g c = λ clean rows is sees.
    no_root rows (names_of c.args.path.now) c.in-Err.fault (c.in-Err.ensures.found clean rows is sees)

pub returns-in-Err-step-clause-found : goal.returns-in-Err-step-clause-found
returns-in-Err-step-clause-found g c = λ clean rows is sees.
    let before = c.loop-name.invariant in
    let one = c.in-Err-step.ensures in
    stop_if _ _ c.args.path.now c.loop-name.rest.now c.in-Some.name.now c.in-Some.after.now c.loop-name.place before.went c.in-Some.ensures.some.0 rows
    c.in-Err-step.fault
    (λ none.
    let clean_before = g.met.L.Look.was_clean _ _ (one.looked.looks none) clean in
    (before.went.so clean_before rows is sees, one.found clean rows is (g.met.L.Look.kept _ _ before.looks clean_before rows sees)))

pub returns-in-Err-step-clause-looked : goal.returns-in-Err-step-clause-looked
returns-in-Err-step-clause-looked g c =
    let before = c.loop-name.invariant in
    let one = c.in-Err-step.ensures.looked in
    record {
      fault = one.fault;
      looks = λ none. g.met.L.Look.and_then _ _ _ before.looks (one.looks none);
      fails = g.met.L.Look.and_fails _ _ _ before.looks one.fails;
    }

pub returns-clause-found : goal.returns-clause-found
returns-clause-found g c =
    went_all _ _ c.args.path.now c.loop-name.rest.now c.loop-name.place c.loop-name.invariant.went (c.next_name.ensures.none c.in_default.is)
