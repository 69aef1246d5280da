use Rattle.sqlite.specs.Held.{state}
use Rattle.fuse_keeper.specs.Group.{entries_of, ids_of}
use Rattle.guest_store.specs.Keeping.{store_of}
use Rattle.guest_store.specs.inner.Transacting.{transacting}
use Rattle.guest_store.proofs.Transacting.{transact_done, transact_failed, transact_first, transact_inside}
use Rattle.guest_store.proofs.Ending.{nothing_begun, nothing_inside, tries_nothing, tries_failed, tries_done}
use Rattle.guest_store.proofs.transaction.transact.Goals as goal

pub returns-in-Err-clause-transacts : goal.returns-in-Err-clause-transacts
returns-in-Err-clause-transacts g c =
    let tell = store_of g.S.Store g.R.Read.remaining g.W.Write.contents in
    let G = g.G.Guested.GUEST in
    transact_first G (transacting G c.args.deaths c.args.lot (ids_of c.args.settled.now) (entries_of c.args.group.now)) (tell c.args.store.now).tables (state g.S.Store c.begin.new.conn) (tell c.args.store.now).talk
    c.in-Err.error c.from.result c.from.ensures c.in-Err.ensures

pub returns-in-Err-perform_in-clause-transacts : goal.returns-in-Err-perform_in-clause-transacts
returns-in-Err-perform_in-clause-transacts g c =
    let tell = store_of g.S.Store g.R.Read.remaining g.W.Write.contents in
    let G = g.G.Guested.GUEST in
    transact_inside G (transacting G c.args.deaths c.args.lot (ids_of c.args.settled.now) (entries_of c.args.group.now)) tt (tell c.args.store.now).tables (state g.S.Store c.begin.new.conn) (tell c.args.store.now).talk
    c.in-Ok.ensures (tell c.perform_in.new.store) c.in-Err-perform_in.fault c.in-Err-perform_in.ensures.steps

pub returns-in-Ok-commit-clause-transacts : goal.returns-in-Ok-commit-clause-transacts
returns-in-Ok-commit-clause-transacts g c =
    let tell = store_of g.S.Store g.R.Read.remaining g.W.Write.contents in
    let G = g.G.Guested.GUEST in
    transact_done G (transacting G c.args.deaths c.args.lot (ids_of c.args.settled.now) (entries_of c.args.group.now)) tt (tell c.args.store.now).tables (state g.S.Store c.begin.new.conn) (tell c.args.store.now).talk
    c.in-Ok.ensures (tell c.perform_in.new.store) c.in-Ok-perform_in.transacted c.in-Ok-perform_in.ensures.steps (state g.S.Store c.commit.new.conn) tt c.in-Ok-commit.ensures

pub returns-in-Err-commit-clause-transacts : goal.returns-in-Err-commit-clause-transacts
returns-in-Err-commit-clause-transacts g c =
    let tell = store_of g.S.Store g.R.Read.remaining g.W.Write.contents in
    let G = g.G.Guested.GUEST in
    transact_failed G (transacting G c.args.deaths c.args.lot (ids_of c.args.settled.now) (entries_of c.args.group.now)) tt (tell c.args.store.now).tables (state g.S.Store c.begin.new.conn) (tell c.args.store.now).talk
    c.in-Ok.ensures (tell c.perform_in.new.store) c.in-Ok-perform_in.transacted c.in-Ok-perform_in.ensures.steps (state g.S.Store c.commit.new.conn) c.in-Err-commit.error
    c.from-in-Err-commit.result c.from-in-Err-commit.ensures c.in-Err-commit.ensures

-- ---- of any database

pub returns-in-Err-clause-tries : goal.returns-in-Err-clause-tries
returns-in-Err-clause-tries g c =
    tries_nothing (state g.S.Store c.args.store.now.pairs.conn) (state g.S.Store c.begin.new.conn) c.from.result
    (nothing_begun (state g.S.Store c.args.store.now.pairs.conn) (state g.S.Store c.begin.new.conn) c.in-Err.error c.in-Err.ensures)

pub returns-in-Err-perform_in-clause-tries : goal.returns-in-Err-perform_in-clause-tries
returns-in-Err-perform_in-clause-tries g c =
    tries_nothing (state g.S.Store c.args.store.now.pairs.conn) (state g.S.Store c.perform_in.new.store.pairs.conn) c.in-Err-perform_in.fault
    (nothing_inside tt (state g.S.Store c.args.store.now.pairs.conn) (state g.S.Store c.begin.new.conn) (state g.S.Store c.perform_in.new.store.pairs.conn) c.in-Ok.ensures
    c.in-Err-perform_in.ensures.steps.takes.stays)

pub returns-in-Ok-commit-clause-tries : goal.returns-in-Ok-commit-clause-tries
returns-in-Ok-commit-clause-tries g c =
    tries_done (state g.S.Store c.args.store.now.pairs.conn) (state g.S.Store c.perform_in.new.store.pairs.conn) (state g.S.Store c.commit.new.conn) c.in-Ok-perform_in.transacted tt
    (nothing_inside tt (state g.S.Store c.args.store.now.pairs.conn) (state g.S.Store c.begin.new.conn) (state g.S.Store c.perform_in.new.store.pairs.conn) c.in-Ok.ensures
    c.in-Ok-perform_in.ensures.steps.takes.stays)
    c.in-Ok-commit.ensures

pub returns-in-Err-commit-clause-tries : goal.returns-in-Err-commit-clause-tries
returns-in-Err-commit-clause-tries g c =
    tries_failed (state g.S.Store c.args.store.now.pairs.conn) (state g.S.Store c.perform_in.new.store.pairs.conn) (state g.S.Store c.commit.new.conn) c.in-Err-commit.error
    c.from-in-Err-commit.result c.from-in-Err-commit.ensures
    (nothing_inside tt (state g.S.Store c.args.store.now.pairs.conn) (state g.S.Store c.begin.new.conn) (state g.S.Store c.perform_in.new.store.pairs.conn) c.in-Ok.ensures
    c.in-Ok-perform_in.ensures.steps.takes.stays)
    c.in-Err-commit.ensures
