use Rattle.sqlite.specs.Held.{state}
use Rattle.fuse_keeper.specs.Group.{ids_of, entries_of}
use Rattle.fuse_store_tables.specs.inner.Following.{earlier}
use Rattle.fuse_store_tables.specs.inner.Transaction.{open_undone}
use Rattle.fuse_tree.specs.TheTree.{tree_of}
use Rattle.fuse_store_tree.specs.Group.{transacted}
use Rattle.fuse_store_tree.specs.StoreState.{store_in}
use Rattle.fuse_store_tree.proofs.Resting.{store_served, store_undone, usable_ok, usable_err}
use Rattle.fuse_store_tree.proofs.Whole.{rolled_back, undone_for, once_undone}
use Rattle.fuse_store_tree.proofs.transaction.commit_group.Goals as goal

pub returns-in-Ok-clause-serves : goal.returns-in-Ok-clause-serves
returns-in-Ok-clause-serves g c =
    store_served c.args.look.now.known c.make_and_transact.new.look.known
    (transacted (tree_of c.args.profile).service c.args.lot (ids_of c.args.settled.now) (entries_of c.args.group.now))
    (store_in g.S.Store g.D.Disk c.args.look.now.conn c.args.look.now.contents.file)
    (store_in g.S.Store g.D.Disk c.make_and_transact.new.look.conn c.make_and_transact.new.look.contents.file) c.make_and_transact.new.look.contents.written.items
    c.in-Ok.transacted c.in-Ok.transacted (g.met.S.Store.settled c.args.look.now.conn.store) c.in-Ok.ensures.performs

pub returns-in-Err-clause-serves : goal.returns-in-Err-clause-serves
returns-in-Err-clause-serves g c =
    store_undone c.args.look.now.known c.make_and_transact.new.look.known
    (transacted (tree_of c.args.profile).service c.args.lot (ids_of c.args.settled.now) (entries_of c.args.group.now))
    (store_in g.S.Store g.D.Disk c.args.look.now.conn c.args.look.now.contents.file)
    (store_in g.S.Store g.D.Disk c.make_and_transact.new.look.conn c.make_and_transact.new.look.contents.file)
    (store_in g.S.Store g.D.Disk c.undo.new.conn c.settle.new.self.file) c.make_and_transact.new.look.contents.written.items
    c.in-Err.fault c.in-Err.fault (g.met.S.Store.settled c.args.look.now.conn.store) c.in-Err.ensures.performs c.undo.ensures c.settle.ensures.contents c.settle.ensures.synced

pub returns-in-Ok-clause-usable : goal.returns-in-Ok-clause-usable
returns-in-Ok-clause-usable g c =
    usable_ok c.args.look.now.known c.make_and_transact.new.look.known
    (transacted (tree_of c.args.profile).service c.args.lot (ids_of c.args.settled.now) (entries_of c.args.group.now))
    (store_in g.S.Store g.D.Disk c.args.look.now.conn c.args.look.now.contents.file)
    (store_in g.S.Store g.D.Disk c.make_and_transact.new.look.conn c.make_and_transact.new.look.contents.file) c.make_and_transact.new.look.contents.written.items
    c.in-Ok.transacted c.in-Ok.transacted c.in-Ok.ensures.performs c.in-Ok.ensures.open

pub returns-in-Err-clause-usable : goal.returns-in-Err-clause-usable
returns-in-Err-clause-usable g c =
    usable_err c.args.look.now.known c.make_and_transact.new.look.known
    (transacted (tree_of c.args.profile).service c.args.lot (ids_of c.args.settled.now) (entries_of c.args.group.now))
    (store_in g.S.Store g.D.Disk c.args.look.now.conn c.args.look.now.contents.file)
    (store_in g.S.Store g.D.Disk c.make_and_transact.new.look.conn c.make_and_transact.new.look.contents.file)
    (store_in g.S.Store g.D.Disk c.undo.new.conn c.settle.new.self.file) c.make_and_transact.new.look.contents.written.items
    c.in-Err.fault c.in-Err.fault c.in-Err.ensures.performs c.settle.ensures.contents
    (open_undone (state g.S.Store c.args.look.now.conn) (state g.S.Store c.make_and_transact.new.look.conn) (state g.S.Store c.undo.new.conn) c.in-Err.fault
    c.in-Err.fault c.in-Err.ensures.open c.undo.ensures)

pub returns-in-Err-clause-fault : goal.returns-in-Err-clause-fault
returns-in-Err-clause-fault g c = λ (clean, read).
    c.in-Err.ensures.fault (
      earlier (state g.S.Store c.make_and_transact.new.look.conn) (state g.S.Store c.undo.new.conn) _ c.undo.ensures.survives clean,
      c.settle.ensures.contents.clean read,
    )

pub returns-in-Ok-clause-open : goal.returns-in-Ok-clause-open
returns-in-Ok-clause-open g c = c.in-Ok.ensures.open

pub returns-in-Err-clause-open : goal.returns-in-Err-clause-open
returns-in-Err-clause-open g c =
    open_undone (state g.S.Store c.args.look.now.conn) (state g.S.Store c.make_and_transact.new.look.conn) (state g.S.Store c.undo.new.conn) c.in-Err.fault
    c.in-Err.fault c.in-Err.ensures.open c.undo.ensures

pub returns-in-Ok-clause-ended : goal.returns-in-Ok-clause-ended
returns-in-Ok-clause-ended g c = c.in-Ok.ensures.ended

pub returns-in-Err-clause-ended : goal.returns-in-Err-clause-ended
returns-in-Err-clause-ended g c = c.undo.ensures.autocommit

pub returns-in-Err-clause-refused : goal.returns-in-Err-clause-refused
returns-in-Err-clause-refused g c = λ refused.
    rolled_back (state g.S.Store c.args.look.now.conn) (state g.S.Store c.make_and_transact.new.look.conn) (state g.S.Store c.undo.new.conn)
    (c.in-Err.ensures.refused refused) c.undo.ensures

pub returns-in-Err-clause-undone : goal.returns-in-Err-clause-undone
returns-in-Err-clause-undone g c =
    undone_for (state g.S.Store c.args.look.now.conn) (state g.S.Store c.make_and_transact.new.look.conn) (state g.S.Store c.undo.new.conn) c.in-Err.ensures.keeps
    c.undo.ensures

pub returns-in-Ok-clause-once : goal.returns-in-Ok-clause-once
returns-in-Ok-clause-once g c = c.in-Ok.ensures.once

pub returns-in-Err-clause-once : goal.returns-in-Err-clause-once
returns-in-Err-clause-once g c =
    once_undone (state g.S.Store c.args.look.now.conn) (state g.S.Store c.make_and_transact.new.look.conn) (state g.S.Store c.undo.new.conn) c.in-Err.fault
    c.in-Err.fault c.in-Err.ensures.once c.undo.ensures
