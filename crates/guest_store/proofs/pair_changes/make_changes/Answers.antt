use Rattle.std.proofs.Common.{List, [], refl, sym, ap, subst, ◌∙◌}
use Rattle.std.specs.List.{AllByRecursion}
use Rattle.sqlite.specs.Held.{state}
use Rattle.guest_frames.specs.Borrowed.{change_content, changes_left}
use Rattle.guest_frames.specs.Frames.{ChangeContent, IsChange}
use Rattle.guest_frames.specs.declared.changes.Changes.{Changes}
use Rattle.fuse_guest.specs.Pairs.{Pairs, changed_pairs, pairs_after}
use Rattle.guest_store.specs.inner.Changing.{changing}
use Rattle.guest_store.specs.inner.Stepping.{with_talk}
use Rattle.guest_store.proofs.Stepping.{step_as, step_err, step_none, step_ok}
use Rattle.guest_store.proofs.pair_changes.make_changes.Goals as goal

pub loop-change-init : goal.loop-change-init
loop-change-init g c =
    let same = c.into_iter-change-iterator.ensures.into_iter_gives in
    record {
      next = tt;
      finite = tt;
      right = subst (λ (i : Changes). AllByRecursion IsChange (changes_left i)) (sym same) c.requires;
      done = (
        λ ps. ps,
        λ ps. ap (λ (i : Changes). changed_pairs (changes_left i) ps) same,
        λ t. step_none g.G.Guested.GUEST (changing g.G.Guested.GUEST (λ ps. ps)) (with_talk (state g.S.Store c.args.conn.now) t) tt (λ all y records. (refl, tt)) (λ y. refl),
      );
    }

pub make_change-requires : goal.make_change-requires
make_change-requires g c = (subst (λ (l : List ChangeContent). AllByRecursion IsChange l) c.in-Some.ensures.steps c.loop-change.invariant.right).0

pub loop-change-preserved : goal.loop-change-preserved
loop-change-preserved g c =
    let G = g.G.Guested.GUEST in
    let (f, same, steps) = c.loop-change.invariant.done in
    let x = change_content c.in-Some.change in
    let goes = c.in-Some.ensures.steps in
    record {
      next = tt;
      finite = tt;
      right = (subst (λ (l : List ChangeContent). AllByRecursion IsChange l) goes c.loop-change.invariant.right).1;
      done = (
        λ ps. pairs_after (f ps) x,
        λ ps. ap (λ (l : List ChangeContent). changed_pairs l (f ps)) (sym goes) ∙ same ps,
        λ t. step_ok G (changing G f) (changing G (λ ps. pairs_after ps x)) (with_talk (state g.S.Store c.args.conn.now) t)
            (with_talk (state g.S.Store c.loop-change.conn) t) (with_talk (state g.S.Store c.make_change.new.conn) t) tt (steps t)
            (changing G (λ ps. pairs_after (f ps) x)) tt tt (c.in-Ok.ensures t) (λ all w told more. (refl, tt)) (λ all w told. refl),
      );
    }

pub returns-in-Err : goal.returns-in-Err
returns-in-Err g c = λ t.
    let G = g.G.Guested.GUEST in
    let (f, same, steps) = c.loop-change.invariant.done in
    step_err G (changing G f) (changing G (λ ps. pairs_after ps (change_content c.in-Some.change))) (with_talk (state g.S.Store c.args.conn.now) t)
    (with_talk (state g.S.Store c.loop-change.conn) t) (with_talk (state g.S.Store c.make_change.new.conn) t) tt (steps t)
    (changing G (λ ps. changed_pairs (changes_left c.args.changes) ps)) c.in-Err.fault (c.in-Err.ensures t) (λ w told safe. tt) (λ all w told. ([], refl))

pub returns : goal.returns
returns g c = λ t.
    let G = g.G.Guested.GUEST in
    let (f, same, steps) = c.loop-change.invariant.done in
    step_as G (changing G f) (changing G (λ ps. changed_pairs (changes_left c.args.changes) ps)) (with_talk (state g.S.Store c.args.conn.now) t)
    (with_talk (state g.S.Store c.loop-change.conn) t) tt tt (steps t)
    (λ all w told. (
      ap (λ (ps : Pairs). record w { state = record w.state { pairs = ps } })
          (ap (λ (l : List ChangeContent). changed_pairs l (f w.state.pairs)) (sym c.in-None.ensures.steps.0) ∙ same w.state.pairs),
      tt,
    ))
    (λ all w told. refl)
