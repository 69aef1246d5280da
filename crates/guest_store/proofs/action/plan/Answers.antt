use Rattle.std.specs.Option.{is_some}
use Rattle.std.proofs.Common.{◌≡◌, ap, ◌∙◌}
use Rattle.sqlite.specs.Held.{state}
use Rattle.fuse_request.specs.Act.{act}
use Rattle.guest_store.specs.Keeping.{store_of}
use Rattle.guest_store.specs.StoreState.{held_as}
use Rattle.guest_store.specs.declared.deciding.Decision.{Decision}
use Rattle.guest_store.specs.inner.Acting.{planning}
use Rattle.guest_store.specs.inner.Deciding.{decided}
use Rattle.guest_store.proofs.Tables.{look_err, look_ok}
use Rattle.guest_store.proofs.action.plan.Goals as goal

pub returns-in-Ok : goal.returns-in-Ok
returns-in-Ok g c =
    let tell = store_of g.S.Store g.R.Read.remaining g.W.Write.contents in
    let G = g.G.Guested.GUEST in
    let a = state g.S.Store c.args.store.now.pairs.conn in
    let b = state g.S.Store c.find_settings.new.conn in
    let it = act c.args.op.now in
    look_ok G (λ y (d : Decision). d ≡ decided G.ready (is_some y.state.settings) it) a b (tell c.args.store.now).talk c.decide.result c.in-Ok.ensures.looks
    (λ honest n y at. c.decide.ensures ∙ ap (λ b. decided c.ready-ready.result b it) c.is_some.ensures
    ∙ ap (λ r. decided r (is_some c.in-Ok.settings) it) (c.ready-ready.ensures ∙ honest.1.ready)
    ∙ ap (λ s. decided G.ready (is_some s) it) (c.in-Ok.ensures.value honest.0 (held_as G n y) at))

pub returns-in-Err : goal.returns-in-Err
returns-in-Err g c =
    let tell = store_of g.S.Store g.R.Read.remaining g.W.Write.contents in
    let G = g.G.Guested.GUEST in
    look_err G (planning G (act c.args.op.now)) (state g.S.Store c.args.store.now.pairs.conn) (state g.S.Store c.find_settings.new.conn) (tell c.args.store.now).talk
    c.in-Err.fault c.in-Err.ensures.fails c.in-Err.ensures.plain c.in-Err.ensures.fault
