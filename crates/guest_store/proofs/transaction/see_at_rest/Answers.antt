use Rattle.sqlite.specs.Held.{state}
use Rattle.fuse_keeper.specs.Group.{entries_of}
use Rattle.guest_store.specs.Keeping.{store_of}
use Rattle.guest_store.specs.inner.Transacting.{sighting}
use Rattle.guest_store.proofs.Transacting.{serve_done, serve_undone}
use Rattle.guest_store.proofs.Ending.{alone_back, alone_undone}
use Rattle.guest_store.proofs.transaction.see_at_rest.Goals as goal

pub returns-in-Ok-clause-serves : goal.returns-in-Ok-clause-serves
returns-in-Ok-clause-serves g c =
    let tell = store_of g.S.Store g.R.Read.remaining g.W.Write.contents in
    let G = g.G.Guested.GUEST in
    serve_done G (sighting G c.args.deaths (entries_of c.args.group.now)) (tell c.args.store.now) (tell c.see_inside.new.store) c.in-Ok.seen c.in-Ok.ensures.transacts

pub returns-in-Err-clause-serves : goal.returns-in-Err-clause-serves
returns-in-Err-clause-serves g c =
    let tell = store_of g.S.Store g.R.Read.remaining g.W.Write.contents in
    let G = g.G.Guested.GUEST in
    serve_undone G (sighting G c.args.deaths (entries_of c.args.group.now)) (tell c.args.store.now) (tell c.see_inside.new.store) (state g.S.Store c.undo.new.conn) c.in-Err.fault
    c.in-Err.ensures.transacts c.undo.ensures

pub returns-in-Ok-clause-alone : goal.returns-in-Ok-clause-alone
returns-in-Ok-clause-alone g c =
    alone_back (state g.S.Store c.args.store.now.pairs.conn) (state g.S.Store c.see_inside.new.store.pairs.conn) c.in-Ok.ensures.nothing c.in-Ok.ensures.transacts.ended
    c.in-Ok.ensures.back

pub returns-in-Err-clause-alone : goal.returns-in-Err-clause-alone
returns-in-Err-clause-alone g c =
    alone_undone (state g.S.Store c.args.store.now.pairs.conn) (state g.S.Store c.see_inside.new.store.pairs.conn) (state g.S.Store c.undo.new.conn) c.in-Err.ensures.nothing c.undo.ensures
