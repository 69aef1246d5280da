use Rattle.std.proofs.Common.{◌≡◌, ap, ◌∙◌, Err}
use Rattle.sqlite.specs.Held.{state}
use Rattle.fuse_keeper.specs.Group.{ids_of, entries_of}
use Rattle.fuse_store_tables.specs.inner.Following.{open_then}
use Rattle.fuse_tree.specs.TheTree.{tree_of}
use Rattle.fuse_store_tree.specs.Group.{transacted, all_dones, lot_for}
use Rattle.fuse_store_tree.specs.StoreState.{store_in}
use Rattle.fuse_store_tree.proofs.SpaceFirst.{first_served, first_failed, first_usable, failed_usable, first_told, first_safe, failed_safe, first_refused, first_undone, first_once, failed_undone}
use Rattle.fuse_store_tree.proofs.Whole.{alone_once, open_nothing}
use Rattle.fuse_store_tree.proofs.transaction.commit_anew.Goals as goal

-- ---- the free space wasn't found

pub returns-in-Err-clause-serves : goal.returns-in-Err-clause-serves
returns-in-Err-clause-serves g c =
    first_failed c.args.look.now.known _ (transacted (tree_of c.args.profile).service c.args.lot (ids_of c.args.settled.now) (entries_of c.args.group.now))
    (store_in g.S.Store g.D.Disk c.args.look.now.conn c.args.look.now.contents.file)
    (store_in g.S.Store g.D.Disk c.find_space.new.conn c.find_space.new.contents.file) c.in-Err.fault (c.in-Err.ensures.serves c.args.look.now.known)

pub returns-in-Err-clause-usable : goal.returns-in-Err-clause-usable
returns-in-Err-clause-usable g c =
    failed_usable (store_in g.S.Store g.D.Disk c.args.look.now.conn c.args.look.now.contents.file)
    (store_in g.S.Store g.D.Disk c.find_space.new.conn c.find_space.new.contents.file) c.in-Err.fault c.in-Err.ensures.usable

pub returns-in-Err-clause-open : goal.returns-in-Err-clause-open
returns-in-Err-clause-open g c =
    open_nothing (state g.S.Store c.args.look.now.conn) (state g.S.Store c.find_space.new.conn) c.in-Err.fault c.in-Err.ensures.nothing

pub returns-in-Err-clause-ended : goal.returns-in-Err-clause-ended
returns-in-Err-clause-ended g c = c.in-Err.ensures.alone.autocommit

pub returns-in-Err-clause-fault : goal.returns-in-Err-clause-fault
returns-in-Err-clause-fault g c =
    failed_safe c.args.look.now.known c.args.lot (store_in g.S.Store g.D.Disk c.args.look.now.conn c.args.look.now.contents.file)
    (store_in g.S.Store g.D.Disk c.find_space.new.conn c.find_space.new.contents.file) c.in-Err.fault (c.in-Err.ensures.fault c.args.look.now.known)

pub returns-in-Err-clause-refused : goal.returns-in-Err-clause-refused
returns-in-Err-clause-refused g c = λ refused. c.in-Err.ensures.alone

pub returns-in-Err-clause-undone : goal.returns-in-Err-clause-undone
returns-in-Err-clause-undone g c =
    failed_undone (state g.S.Store c.args.look.now.conn) (state g.S.Store c.find_space.new.conn) c.in-Err.ensures.alone

pub returns-in-Err-clause-once : goal.returns-in-Err-clause-once
returns-in-Err-clause-once g c =
    alone_once (state g.S.Store c.args.look.now.conn) (state g.S.Store c.find_space.new.conn) (Err c.in-Err.fault) c.in-Err.ensures.alone

-- ---- and the transaction

pub commit_group-requires-clause-empty : goal.commit_group-requires-clause-empty
commit_group-requires-clause-empty g c = ap (λ v. v.items) c.in-Ok.ensures.written ∙ c.requires.empty

pub returns-in-Ok-clause-serves : goal.returns-in-Ok-clause-serves
returns-in-Ok-clause-serves g c =
    first_served c.args.look.now.known c.commit_group.new.look.known
    (transacted (tree_of c.args.profile).service c.args.lot (ids_of c.args.settled.now) (entries_of c.args.group.now))
    (store_in g.S.Store g.D.Disk c.args.look.now.conn c.args.look.now.contents.file)
    (store_in g.S.Store g.D.Disk c.find_space.new.conn c.find_space.new.contents.file)
    (store_in g.S.Store g.D.Disk c.commit_group.new.look.conn c.commit_group.new.look.contents.file) _ c.commit_group.result
    (c.in-Ok.ensures.serves c.args.look.now.known) c.commit_group.ensures.serves

pub returns-in-Ok-clause-usable : goal.returns-in-Ok-clause-usable
returns-in-Ok-clause-usable g c =
    first_usable c.args.look.now.known c.commit_group.new.look.known
    (transacted (tree_of c.args.profile).service c.args.lot (ids_of c.args.settled.now) (entries_of c.args.group.now))
    (store_in g.S.Store g.D.Disk c.args.look.now.conn c.args.look.now.contents.file)
    (store_in g.S.Store g.D.Disk c.find_space.new.conn c.find_space.new.contents.file)
    (store_in g.S.Store g.D.Disk c.commit_group.new.look.conn c.commit_group.new.look.contents.file) _ c.commit_group.result
    c.in-Ok.ensures.usable c.commit_group.ensures.serves c.commit_group.ensures.usable

pub returns-in-Ok-clause-open : goal.returns-in-Ok-clause-open
returns-in-Ok-clause-open g c =
    open_then (state g.S.Store c.args.look.now.conn) (state g.S.Store c.find_space.new.conn) (state g.S.Store c.commit_group.new.look.conn) _
    c.commit_group.result c.in-Ok.ensures.open c.commit_group.ensures.once.survives c.commit_group.ensures.open

pub returns-in-Ok-clause-lot : goal.returns-in-Ok-clause-lot
returns-in-Ok-clause-lot g c =
    first_told c.args.look.now.known c.commit_group.new.look.known
    (transacted (tree_of c.args.profile).service c.args.lot (ids_of c.args.settled.now) (entries_of c.args.group.now))
    (store_in g.S.Store g.D.Disk c.args.look.now.conn c.args.look.now.contents.file)
    (store_in g.S.Store g.D.Disk c.find_space.new.conn c.find_space.new.contents.file)
    (store_in g.S.Store g.D.Disk c.commit_group.new.look.conn c.commit_group.new.look.contents.file) _ c.commit_group.result
    (λ p y. p.lot ≡ lot_for c.args.lot y) (c.in-Ok.ensures.serves c.args.look.now.known) c.commit_group.ensures.serves c.commit_group.ensures.lot

pub returns-in-Ok-clause-dones : goal.returns-in-Ok-clause-dones
returns-in-Ok-clause-dones g c =
    first_told c.args.look.now.known c.commit_group.new.look.known
    (transacted (tree_of c.args.profile).service c.args.lot (ids_of c.args.settled.now) (entries_of c.args.group.now))
    (store_in g.S.Store g.D.Disk c.args.look.now.conn c.args.look.now.contents.file)
    (store_in g.S.Store g.D.Disk c.find_space.new.conn c.find_space.new.contents.file)
    (store_in g.S.Store g.D.Disk c.commit_group.new.look.conn c.commit_group.new.look.contents.file) _ c.commit_group.result
    (λ p y. p.dones.items ≡ all_dones (tree_of c.args.profile).service c.args.lot (ids_of c.args.settled.now) (entries_of c.args.group.now) y)
    (c.in-Ok.ensures.serves c.args.look.now.known) c.commit_group.ensures.serves c.commit_group.ensures.dones

pub returns-in-Ok-clause-fault : goal.returns-in-Ok-clause-fault
returns-in-Ok-clause-fault g c =
    first_safe c.args.look.now.known c.commit_group.new.look.known
    (transacted (tree_of c.args.profile).service c.args.lot (ids_of c.args.settled.now) (entries_of c.args.group.now)) c.args.lot
    (store_in g.S.Store g.D.Disk c.args.look.now.conn c.args.look.now.contents.file)
    (store_in g.S.Store g.D.Disk c.find_space.new.conn c.find_space.new.contents.file)
    (store_in g.S.Store g.D.Disk c.commit_group.new.look.conn c.commit_group.new.look.contents.file) _ c.commit_group.result
    (c.in-Ok.ensures.serves c.args.look.now.known) c.commit_group.ensures.serves c.commit_group.ensures.fault

pub returns-in-Ok-clause-refused : goal.returns-in-Ok-clause-refused
returns-in-Ok-clause-refused g c =
    first_refused (state g.S.Store c.args.look.now.conn) (state g.S.Store c.find_space.new.conn) (state g.S.Store c.commit_group.new.look.conn)
    c.commit_group.result c.in-Ok.ensures.nothing c.commit_group.ensures.refused

pub returns-in-Ok-clause-undone : goal.returns-in-Ok-clause-undone
returns-in-Ok-clause-undone g c =
    first_undone (state g.S.Store c.args.look.now.conn) (state g.S.Store c.find_space.new.conn) (state g.S.Store c.commit_group.new.look.conn)
    c.commit_group.result c.in-Ok.ensures.nothing c.commit_group.ensures.once c.commit_group.ensures.open c.commit_group.ensures.undone

pub returns-in-Ok-clause-once : goal.returns-in-Ok-clause-once
returns-in-Ok-clause-once g c =
    first_once (state g.S.Store c.args.look.now.conn) (state g.S.Store c.find_space.new.conn) (state g.S.Store c.commit_group.new.look.conn)
    c.commit_group.result c.in-Ok.ensures.nothing c.commit_group.ensures.once
