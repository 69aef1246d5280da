use Rattle.std.proofs.Common.{refl}
use Rattle.fuse_keeper.specs.Group.{entry_of}
use Rattle.guest_store.specs.Asks.{asks_one}
use Rattle.guest_store.specs.Keeping.{store_of}
use Rattle.guest_store.specs.inner.Acting.{acting, planning}
use Rattle.guest_store.proofs.Acts.{carried}
use Rattle.guest_store.proofs.Stepping.{step_fails}
use Rattle.guest_store.proofs.action.do_request.Goals as goal

pub returns-in-Ok : goal.returns-in-Ok
returns-in-Ok g c =
    let tell = store_of g.S.Store g.R.Read.remaining g.W.Write.contents in
    let G = g.G.Guested.GUEST in
    carried G c.args.deaths (entry_of (c.args.request.now, c.args.now)) (tell c.args.store.now) (tell c.plan.new.store) (tell c.carry_out.new.store) c.in-Ok.decision
    c.carry_out.result c.in-Ok.ensures c.carry_out.ensures

pub returns-in-Err : goal.returns-in-Err
returns-in-Err g c =
    let tell = store_of g.S.Store g.R.Read.remaining g.W.Write.contents in
    let G = g.G.Guested.GUEST in
    let e = entry_of (c.args.request.now, c.args.now) in
    step_fails G (planning G e.asked.act) (acting G c.args.deaths e) (tell c.args.store.now) (tell c.plan.new.store) c.in-Err.fault c.in-Err.ensures
    (λ w safe. tt) (λ all w. (asks_one G.ready c.args.deaths e w.state, refl))
