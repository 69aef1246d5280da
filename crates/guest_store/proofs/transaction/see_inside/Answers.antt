use Rattle.std.proofs.Common.{refl, sym, ◌∙◌}
use Rattle.sqlite.specs.Held.{state}
use Rattle.fuse_keeper.specs.Group.{entries_of}
use Rattle.guest_store.specs.Asks.{asks_of}
use Rattle.guest_store.proofs.Asked.{first_all}
use Rattle.guest_store.specs.Keeping.{store_of}
use Rattle.guest_store.specs.inner.Transacting.{grouping, sighting}
use Rattle.guest_store.proofs.Stepping.{step_fails}
use Rattle.guest_store.proofs.Transacting.{back_done, back_failed, transact_first, transact_inside}
use Rattle.guest_store.proofs.Ending.{nothing_begun, nothing_inside, nothing_then}
use Rattle.guest_store.proofs.transaction.see_inside.Goals as goal

pub returns-in-Err-clause-transacts : goal.returns-in-Err-clause-transacts
returns-in-Err-clause-transacts g c =
    let tell = store_of g.S.Store g.R.Read.remaining g.W.Write.contents in
    let G = g.G.Guested.GUEST in
    transact_first G (sighting G c.args.deaths (entries_of c.args.group.now)) (tell c.args.store.now).tables (state g.S.Store c.begin.new.conn) (tell c.args.store.now).talk
    c.in-Err.error c.from.result c.from.ensures c.in-Err.ensures

pub returns-in-Err-take_all-clause-transacts : goal.returns-in-Err-take_all-clause-transacts
returns-in-Err-take_all-clause-transacts g c =
    let tell = store_of g.S.Store g.R.Read.remaining g.W.Write.contents in
    let G = g.G.Guested.GUEST in
    let b = record c.args.store.now { pairs = record c.args.store.now.pairs { conn = c.begin.new.conn } } in
    transact_inside G (sighting G c.args.deaths (entries_of c.args.group.now)) tt (tell c.args.store.now).tables (state g.S.Store c.begin.new.conn) (tell c.args.store.now).talk
    c.in-Ok.ensures (tell c.take_all.new.store) c.in-Err-take_all.fault
    (step_fails G (grouping G c.args.deaths 0 (entries_of c.args.group.now)) (sighting G c.args.deaths (entries_of c.args.group.now)) (tell b) (tell c.take_all.new.store) c.in-Err-take_all.fault c.in-Err-take_all.ensures.steps
    (λ w safe. tt) (λ all w. first_all (asks_of G c.args.deaths 0 (entries_of c.args.group.now) w) _ refl))

pub returns-in-Ok-go_back-clause-transacts : goal.returns-in-Ok-go_back-clause-transacts
returns-in-Ok-go_back-clause-transacts g c =
    let tell = store_of g.S.Store g.R.Read.remaining g.W.Write.contents in
    let G = g.G.Guested.GUEST in
    back_done G (grouping G c.args.deaths 0 (entries_of c.args.group.now)) (sighting G c.args.deaths (entries_of c.args.group.now)) tt (tell c.args.store.now).tables (state g.S.Store c.begin.new.conn) (tell c.args.store.now).talk
    c.in-Ok.ensures (tell c.take_all.new.store) c.in-Ok-take_all.seen c.in-Ok-take_all.ensures.steps (state g.S.Store c.go_back.new.conn) (λ y. refl) tt c.in-Ok-go_back.ensures
    (λ all y told. (refl, told.1))

pub returns-in-Err-go_back-clause-transacts : goal.returns-in-Err-go_back-clause-transacts
returns-in-Err-go_back-clause-transacts g c =
    let tell = store_of g.S.Store g.R.Read.remaining g.W.Write.contents in
    let G = g.G.Guested.GUEST in
    back_failed G (grouping G c.args.deaths 0 (entries_of c.args.group.now)) (sighting G c.args.deaths (entries_of c.args.group.now)) tt (tell c.args.store.now).tables (state g.S.Store c.begin.new.conn) (tell c.args.store.now).talk
    c.in-Ok.ensures (tell c.take_all.new.store) c.in-Ok-take_all.seen c.in-Ok-take_all.ensures.steps (state g.S.Store c.go_back.new.conn) (λ y. refl) c.in-Err-go_back.ensures.commits
    c.in-Err-go_back.error c.from-in-Err-go_back.result c.from-in-Err-go_back.ensures

-- ---- of any database

pub returns-in-Err-clause-nothing : goal.returns-in-Err-clause-nothing
returns-in-Err-clause-nothing g c =
    nothing_begun (state g.S.Store c.args.store.now.pairs.conn) (state g.S.Store c.begin.new.conn) c.in-Err.error c.in-Err.ensures

pub returns-in-Err-take_all-clause-nothing : goal.returns-in-Err-take_all-clause-nothing
returns-in-Err-take_all-clause-nothing g c =
    nothing_inside tt (state g.S.Store c.args.store.now.pairs.conn) (state g.S.Store c.begin.new.conn) (state g.S.Store c.take_all.new.store.pairs.conn) c.in-Ok.ensures
    c.in-Err-take_all.ensures.steps.takes.stays

pub returns-in-Ok-go_back-clause-nothing : goal.returns-in-Ok-go_back-clause-nothing
returns-in-Ok-go_back-clause-nothing g c =
    nothing_then (state g.S.Store c.args.store.now.pairs.conn) (state g.S.Store c.take_all.new.store.pairs.conn) (state g.S.Store c.go_back.new.conn)
    (nothing_inside tt (state g.S.Store c.args.store.now.pairs.conn) (state g.S.Store c.begin.new.conn) (state g.S.Store c.take_all.new.store.pairs.conn) c.in-Ok.ensures
    c.in-Ok-take_all.ensures.steps.takes.stays)
    c.in-Ok-go_back.ensures.commits

pub returns-in-Err-go_back-clause-nothing : goal.returns-in-Err-go_back-clause-nothing
returns-in-Err-go_back-clause-nothing g c =
    nothing_then (state g.S.Store c.args.store.now.pairs.conn) (state g.S.Store c.take_all.new.store.pairs.conn) (state g.S.Store c.go_back.new.conn)
    (nothing_inside tt (state g.S.Store c.args.store.now.pairs.conn) (state g.S.Store c.begin.new.conn) (state g.S.Store c.take_all.new.store.pairs.conn) c.in-Ok.ensures
    c.in-Ok-take_all.ensures.steps.takes.stays)
    c.in-Err-go_back.ensures.commits

pub returns-in-Ok-go_back-clause-back : goal.returns-in-Ok-go_back-clause-back
returns-in-Ok-go_back-clause-back g c = λ clean.
    let back = c.in-Ok-go_back.ensures.back clean in
    back.2 ∙ sym back.3
