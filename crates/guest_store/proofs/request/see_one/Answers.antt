use Rattle.std.proofs.Common.{refl, ap}
use Rattle.fuse_keeper.specs.Group.{entry_of}
use Rattle.guest_store.specs.Group.{done_newly}
use Rattle.guest_store.specs.Keeping.{store_of}
use Rattle.guest_store.specs.inner.Acting.{acting, seeing}
use Rattle.guest_store.specs.Asks.{asks_one}
use Rattle.guest_store.proofs.Asked.{first_all}
use Rattle.guest_store.proofs.Stepping.{step_as, step_fails}
use Rattle.guest_store.proofs.request.see_one.Goals as goal

pub returns-in-Ok-clause-steps : goal.returns-in-Ok-clause-steps
returns-in-Ok-clause-steps g c =
    let tell = store_of g.S.Store g.R.Read.remaining g.W.Write.contents in
    let G = g.G.Guested.GUEST in
    let e = entry_of (c.args.request.now, c.args.now) in
    step_as G (acting G c.args.deaths e) (seeing G c.args.deaths e) (tell c.args.store.now) (tell c.do_request.new.store) c.in-Ok.answer _ c.in-Ok.ensures (λ all w told. (refl, ap done_newly told)) (λ all w told. refl)

pub returns-in-Err-clause-steps : goal.returns-in-Err-clause-steps
returns-in-Err-clause-steps g c =
    let tell = store_of g.S.Store g.R.Read.remaining g.W.Write.contents in
    let G = g.G.Guested.GUEST in
    let e = entry_of (c.args.request.now, c.args.now) in
    step_fails G (acting G c.args.deaths e) (seeing G c.args.deaths e) (tell c.args.store.now) (tell c.do_request.new.store) c.in-Err.fault c.in-Err.ensures
    (λ w safe. tt) (λ all w. first_all (asks_one G.ready c.args.deaths e w.state) _ refl)
