use Rattle.std.proofs.Common.{Err}
use Rattle.sqlite.specs.Held.{state}
use Rattle.fuse_keeper.specs.Group.{entries_of, ids_of}
use Rattle.fuse_keeper.specs.declared.fault.StoreFault.TheVariants.{Guest as GuestFailed}
use Rattle.guest_store.specs.Keeping.{store_of}
use Rattle.guest_store.specs.inner.Transacting.{performing}
use Rattle.guest_store.proofs.Ending.{alone_undone, ends_alone, nothing_same}
use Rattle.guest_store.proofs.Transacting.{serve_undone, stood}
use Rattle.guest_store.proofs.transaction.perform.Goals as goal

pub returns-then-failed-clause-serves : goal.returns-then-failed-clause-serves
returns-then-failed-clause-serves g c =
    let a = store_of g.S.Store g.R.Read.remaining g.W.Write.contents c.args.store.now in
    let e = performing g.G.Guested.GUEST c.args.deaths c.args.lot (ids_of c.args.settled.now) (entries_of c.args.group.now) in
    serve_undone g.G.Guested.GUEST e a a (state g.S.Store c.undo.new.conn) GuestFailed (stood g.G.Guested.GUEST e a) c.undo.ensures

pub returns-then-failed-clause-ends : goal.returns-then-failed-clause-ends
returns-then-failed-clause-ends g c =
    let a = state g.S.Store c.args.store.now.pairs.conn in
    let b = state g.S.Store c.undo.new.conn in
    ends_alone a b (Err GuestFailed) (alone_undone a a b (nothing_same a) c.undo.ensures)

pub returns-then-failed-clause-alone : goal.returns-then-failed-clause-alone
returns-then-failed-clause-alone g c = λ none.
    let a = state g.S.Store c.args.store.now.pairs.conn in
    alone_undone a a (state g.S.Store c.undo.new.conn) (nothing_same a) c.undo.ensures
