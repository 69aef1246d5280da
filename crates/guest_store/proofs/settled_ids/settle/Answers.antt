use Rattle.std.proofs.Common.{[], ◌+◌, Ok, refl, subst, arith, take, slice_index_or}
use Rattle.std.specs.Prelude.{⊤}
use Rattle.std.proofs.lemmas.List.{take_all}
use Rattle.sqlite.specs.Held.{state}
use Rattle.fuse_keeper.specs.Group.{ids_of}
use Rattle.guest_store.specs.Group.{without_record, without_settled}
use Rattle.guest_store.specs.inner.Stepping.{Steps, making, with_talk}
use Rattle.guest_store.proofs.Groups.{settled_more}
use Rattle.guest_store.proofs.Stepping.{step_ok, step_err}
use Rattle.guest_store.proofs.settled_ids.settle.Goals as goal

pub rest-preserved : goal.rest-preserved
rest-preserved g c = record {
  ids = refl;
  done = omega (arith, c.rest-test.true);
  steps = λ t.
      let G = g.G.Guested.GUEST in
      let id = slice_index_or c.args.ids.now c.rest.done (record { 0 = 0 }) in
      step_ok G (making G (λ y. without_settled (ids_of (take c.rest.done c.args.ids.now)) y) (λ y r. ⊤)) (making G (λ y. without_record id.0 y) (λ y r. ⊤))
      (with_talk (state g.S.Store c.args.conn.now) t) (with_talk (state g.S.Store c.rest.conn) t) (with_talk (state g.S.Store c.forget.new.conn) t)
      tt (c.rest.invariant.steps t) (making G (λ y. without_settled (ids_of (take (c.rest.done + 1) c.args.ids.now)) y) (λ y r. ⊤)) tt tt (c.in-Ok.ensures t)
      (λ all w told more. (settled_more c.args.ids.now c.rest.done (record { 0 = 0 }) w c.rest-test.true, tt)) (λ all w told. refl);
}

pub returns-in-Err : goal.returns-in-Err
returns-in-Err g c = λ t.
    let G = g.G.Guested.GUEST in
    let id = slice_index_or c.args.ids.now c.rest.done (record { 0 = 0 }) in
    step_err G (making G (λ y. without_settled (ids_of (take c.rest.done c.args.ids.now)) y) (λ y r. ⊤)) (making G (λ y. without_record id.0 y) (λ y r. ⊤))
    (with_talk (state g.S.Store c.args.conn.now) t) (with_talk (state g.S.Store c.rest.conn) t) (with_talk (state g.S.Store c.forget.new.conn) t)
    tt (c.rest.invariant.steps t) (making G (λ y. without_settled (ids_of c.args.ids.now) y) (λ y r. ⊤)) c.in-Err.fault (c.in-Err.ensures t)
    (λ w told safe. tt) (λ all w told. ([], refl))

pub returns : goal.returns
returns g c = λ t.
    let G = g.G.Guested.GUEST in
    subst (λ l. Steps {A = Unit {0}} G (making G (λ y. without_settled (ids_of l) y) (λ y r. ⊤)) (with_talk (state g.S.Store c.args.conn.now) t)
    (with_talk (state g.S.Store c.rest.conn) t) (Ok tt))
    (take_all c.rest.done c.args.ids.now c.rest-test.false) (c.rest.invariant.steps t)
