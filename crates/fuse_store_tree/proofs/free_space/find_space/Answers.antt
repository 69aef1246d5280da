use Rattle.sqlite.specs.Held.{state}
use Rattle.fuse_store_tree.specs.StoreState.{store_in}
use Rattle.fuse_store_tree.proofs.Resting.{nothing_still}
use Rattle.fuse_store_tree.proofs.SpaceFound.{still_served, still_usable, still_open, alone_nothing}
use Rattle.fuse_store_tree.proofs.free_space.find_space.Goals as goal

pub returns-then-not-is_too_much-clause-serves : goal.returns-then-not-is_too_much-clause-serves
returns-then-not-is_too_much-clause-serves g c known =
    still_served known (store_in g.S.Store g.D.Disk c.args.conn.now c.args.contents.now.file) _ (g.met.S.Store.settled c.args.conn.now.store)

pub returns-then-not-is_too_much-clause-usable : goal.returns-then-not-is_too_much-clause-usable
returns-then-not-is_too_much-clause-usable g c = still_usable (store_in g.S.Store g.D.Disk c.args.conn.now c.args.contents.now.file) _

pub returns-then-not-is_too_much-clause-nothing : goal.returns-then-not-is_too_much-clause-nothing
returns-then-not-is_too_much-clause-nothing g c = nothing_still (state g.S.Store c.args.conn.now)

pub returns-then-not-is_too_much-clause-open : goal.returns-then-not-is_too_much-clause-open
returns-then-not-is_too_much-clause-open g c = still_open (state g.S.Store c.args.conn.now) _

pub returns-clause-nothing : goal.returns-clause-nothing
returns-clause-nothing g c = alone_nothing (state g.S.Store c.args.conn.now) (state g.S.Store c.space_anew.new.conn) c.space_anew.ensures.alone
