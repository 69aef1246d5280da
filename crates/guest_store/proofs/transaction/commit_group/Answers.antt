use Rattle.sqlite.specs.Held.{state}
use Rattle.fuse_keeper.specs.Group.{entries_of, ids_of}
use Rattle.guest_store.specs.Keeping.{store_of}
use Rattle.guest_store.specs.inner.Transacting.{transacting}
use Rattle.guest_store.proofs.Transacting.{serve_done, serve_undone}
use Rattle.guest_store.proofs.Ending.{ends_done, ends_undone}
use Rattle.guest_store.proofs.transaction.commit_group.Goals as goal

pub returns-in-Ok-clause-serves : goal.returns-in-Ok-clause-serves
returns-in-Ok-clause-serves g c =
    let tell = store_of g.S.Store g.R.Read.remaining g.W.Write.contents in
    let G = g.G.Guested.GUEST in
    serve_done G (transacting G c.args.deaths c.args.lot (ids_of c.args.settled.now) (entries_of c.args.group.now)) (tell c.args.store.now) (tell c.transact.new.store) c.in-Ok.transacted c.in-Ok.ensures.transacts

pub returns-in-Err-clause-serves : goal.returns-in-Err-clause-serves
returns-in-Err-clause-serves g c =
    let tell = store_of g.S.Store g.R.Read.remaining g.W.Write.contents in
    let G = g.G.Guested.GUEST in
    serve_undone G (transacting G c.args.deaths c.args.lot (ids_of c.args.settled.now) (entries_of c.args.group.now)) (tell c.args.store.now) (tell c.transact.new.store) (state g.S.Store c.undo.new.conn) c.in-Err.fault
    c.in-Err.ensures.transacts c.undo.ensures

pub returns-in-Ok-clause-ends : goal.returns-in-Ok-clause-ends
returns-in-Ok-clause-ends g c =
    ends_done (state g.S.Store c.args.store.now.pairs.conn) (state g.S.Store c.transact.new.store.pairs.conn) c.in-Ok.transacted c.in-Ok.ensures.tries
    c.in-Ok.ensures.transacts.ended

pub returns-in-Err-clause-ends : goal.returns-in-Err-clause-ends
returns-in-Err-clause-ends g c =
    ends_undone (state g.S.Store c.args.store.now.pairs.conn) (state g.S.Store c.transact.new.store.pairs.conn) (state g.S.Store c.undo.new.conn) c.in-Err.fault c.in-Err.ensures.tries
    c.in-Err.ensures.transacts.keeps c.undo.ensures
