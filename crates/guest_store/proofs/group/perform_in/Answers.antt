use Rattle.std.proofs.Common.{refl}
use Rattle.fuse_keeper.specs.Group.{entries_of, ids_of}
use Rattle.guest_store.specs.Asks.{all_asks}
use Rattle.guest_store.specs.Keeping.{store_of}
use Rattle.guest_store.specs.inner.Transacting.{transacting}
use Rattle.guest_store.proofs.GroupSteps.{prepares, preparing, settling, transacts}
use Rattle.guest_store.proofs.Stepping.{step_fails}
use Rattle.guest_store.proofs.group.perform_in.Goals as goal

pub returns-in-Err-clause-steps : goal.returns-in-Err-clause-steps
returns-in-Err-clause-steps g c =
    let tell = store_of g.S.Store g.R.Read.remaining g.W.Write.contents in
    let G = g.G.Guested.GUEST in
    let b = record c.args.store.now { pairs = record c.args.store.now.pairs { conn = c.settle.new.conn } } in
    step_fails G (settling G (ids_of c.args.settled.now)) (transacting G c.args.deaths c.args.lot (ids_of c.args.settled.now) (entries_of c.args.group.now)) (tell c.args.store.now) (tell b)
    c.in-Err.fault (c.in-Err.ensures (tell c.args.store.now).talk) (λ w safe. tt) (λ all w. (all_asks G c.args.deaths c.args.lot (ids_of c.args.settled.now) (entries_of c.args.group.now) w, refl))

pub returns-in-Err-take_lot-clause-steps : goal.returns-in-Err-take_lot-clause-steps
returns-in-Err-take_lot-clause-steps g c =
    let tell = store_of g.S.Store g.R.Read.remaining g.W.Write.contents in
    let G = g.G.Guested.GUEST in
    let b = record c.args.store.now { pairs = record c.args.store.now.pairs { conn = c.settle.new.conn } } in
    let d = record c.args.store.now { pairs = record c.args.store.now.pairs { conn = c.take_lot.new.conn } } in
    let ids = ids_of c.args.settled.now in
    step_fails G (preparing G c.args.lot ids) (transacting G c.args.deaths c.args.lot ids (entries_of c.args.group.now)) (tell c.args.store.now) (tell d) c.in-Err-take_lot.fault
    (prepares G c.args.lot ids (tell c.args.store.now) (tell b) (tell d) _ (c.in-Ok.ensures (tell c.args.store.now).talk)
    (c.in-Err-take_lot.ensures.steps (tell c.args.store.now).talk)) (λ w safe. safe)
    (λ all w. (all_asks G c.args.deaths c.args.lot ids (entries_of c.args.group.now) w, refl))

pub returns-clause-steps : goal.returns-clause-steps
returns-clause-steps g c =
    let tell = store_of g.S.Store g.R.Read.remaining g.W.Write.contents in
    let G = g.G.Guested.GUEST in
    let b = record c.args.store.now { pairs = record c.args.store.now.pairs { conn = c.settle.new.conn } } in
    let d = record c.args.store.now { pairs = record c.args.store.now.pairs { conn = c.take_lot.new.conn } } in
    let ids = ids_of c.args.settled.now in
    transacts G c.args.deaths c.args.lot ids (entries_of c.args.group.now) c.in-Ok-take_lot.lot (tell c.args.store.now) (tell d) (tell c.take_all.new.store) c.take_all.result
    (prepares G c.args.lot ids (tell c.args.store.now) (tell b) (tell d) _ (c.in-Ok.ensures (tell c.args.store.now).talk)
    (c.in-Ok-take_lot.ensures.steps (tell c.args.store.now).talk)) c.take_all.ensures.steps
