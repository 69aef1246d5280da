use Rattle.std.proofs.Common.{◌≡◌, Ok, Err, refl}
use Rattle.sqlite.specs.Held.{state}
use Rattle.fuse_data.specs.State.{state_in}
use Rattle.fuse_store_tables.specs.inner.Following.{open_told}
use Rattle.fuse_store_tree.specs.Listings.{ListsExtents}
use Rattle.fuse_store_tree.specs.StoreState.{store_in}
use Rattle.fuse_store_tree.proofs.SpaceFound.{alone_nothing, finds_nothing, found_served, found_usable, found_sound, lists_after, sound_of}
use Rattle.fuse_store_tree.proofs.Whole.{open_nothing}
use Rattle.fuse_store_tree.proofs.free_space.space_anew.Goals as goal

-- ---- the list was read

pub returns-in-Ok-Some-clause-serves : goal.returns-in-Ok-Some-clause-serves
returns-in-Ok-Some-clause-serves g c known =
    let old = store_in g.S.Store g.D.Disk c.args.conn.now c.args.contents.now.file in
    let new = store_in g.S.Store g.D.Disk c.list_at_rest.new.conn c.set_space.new.contents.file in
    let a = state g.S.Store c.args.conn.now in
    let b = state g.S.Store c.list_at_rest.new.conn in
    let es = c.in-Ok-Some.listed.items in
    found_served old new (g.met.S.Store.settled c.args.conn.now.store) c.list_at_rest.ensures.alone known
    (λ clean y at.
    let these : ListsExtents a es = rw c.in-Ok-Some.field-0-is at (c.in-Ok-Some.ensures.listed clean) in
    lists_after known old (state_in g.D.Disk c.set_space.new.contents.file).gaps es c.as_slice.result.now c.as_slice.ensures.value these c.set_space.ensures.in_use y at)
    c.set_space.result (open_told a b _ c.set_space.result c.in-Ok-Some.ensures.open) c.set_space.ensures.finds

pub returns-in-Ok-Some-clause-usable : goal.returns-in-Ok-Some-clause-usable
returns-in-Ok-Some-clause-usable g c =
    found_usable (store_in g.S.Store g.D.Disk c.args.conn.now c.args.contents.now.file)
    (store_in g.S.Store g.D.Disk c.list_at_rest.new.conn c.set_space.new.contents.file) c.set_space.result
    (open_told (state g.S.Store c.args.conn.now) (state g.S.Store c.list_at_rest.new.conn) _ c.set_space.result c.in-Ok-Some.ensures.open)
    c.set_space.ensures.finds

pub returns-in-Ok-Some-clause-open : goal.returns-in-Ok-Some-clause-open
returns-in-Ok-Some-clause-open g c =
    open_told (state g.S.Store c.args.conn.now) (state g.S.Store c.list_at_rest.new.conn) _ c.set_space.result c.in-Ok-Some.ensures.open

pub returns-in-Ok-Some-clause-fault : goal.returns-in-Ok-Some-clause-fault
returns-in-Ok-Some-clause-fault g c known =
    sound_of known (store_in g.S.Store g.D.Disk c.args.conn.now c.args.contents.now.file)
    (store_in g.S.Store g.D.Disk c.list_at_rest.new.conn c.set_space.new.contents.file) c.set_space.result c.set_space.ensures.fault

-- ---- it couldn't be read

pub returns-in-Ok-None-clause-serves : goal.returns-in-Ok-None-clause-serves
returns-in-Ok-None-clause-serves g c known =
    let s = state_in g.D.Disk c.args.contents.now.file in
    found_served (store_in g.S.Store g.D.Disk c.args.conn.now c.args.contents.now.file)
    (store_in g.S.Store g.D.Disk c.list_at_rest.new.conn c.args.contents.now.file) (g.met.S.Store.settled c.args.conn.now.store)
    c.list_at_rest.ensures.alone known (λ clean y at. at.in_use) (Ok _)
    (open_told (state g.S.Store c.args.conn.now) (state g.S.Store c.list_at_rest.new.conn) _ (Ok _) c.in-Ok-None.ensures.open)
    (finds_nothing s (Ok _) refl)

pub returns-in-Ok-None-clause-usable : goal.returns-in-Ok-None-clause-usable
returns-in-Ok-None-clause-usable g c =
    found_usable (store_in g.S.Store g.D.Disk c.args.conn.now c.args.contents.now.file)
    (store_in g.S.Store g.D.Disk c.list_at_rest.new.conn c.args.contents.now.file) (Ok _)
    (open_told (state g.S.Store c.args.conn.now) (state g.S.Store c.list_at_rest.new.conn) _ (Ok _) c.in-Ok-None.ensures.open)
    (finds_nothing (state_in g.D.Disk c.args.contents.now.file) (Ok _) refl)

pub returns-in-Ok-None-clause-open : goal.returns-in-Ok-None-clause-open
returns-in-Ok-None-clause-open g c =
    open_told (state g.S.Store c.args.conn.now) (state g.S.Store c.list_at_rest.new.conn) _ (Ok _) c.in-Ok-None.ensures.open

-- ---- the connection is shut

pub returns-in-Err-clause-serves : goal.returns-in-Err-clause-serves
returns-in-Err-clause-serves g c known =
    found_served (store_in g.S.Store g.D.Disk c.args.conn.now c.args.contents.now.file)
    (store_in g.S.Store g.D.Disk c.list_at_rest.new.conn c.args.contents.now.file) (g.met.S.Store.settled c.args.conn.now.store)
    c.list_at_rest.ensures.alone known (λ clean y at. at.in_use) (Err c.in-Err.fault)
    (open_nothing (state g.S.Store c.args.conn.now) (state g.S.Store c.list_at_rest.new.conn) c.in-Err.fault
    (alone_nothing (state g.S.Store c.args.conn.now) (state g.S.Store c.list_at_rest.new.conn) c.list_at_rest.ensures.alone))
    (finds_nothing (state_in g.D.Disk c.args.contents.now.file) (Err c.in-Err.fault) tt)

pub returns-in-Err-clause-usable : goal.returns-in-Err-clause-usable
returns-in-Err-clause-usable g c =
    found_usable (store_in g.S.Store g.D.Disk c.args.conn.now c.args.contents.now.file)
    (store_in g.S.Store g.D.Disk c.list_at_rest.new.conn c.args.contents.now.file) (Err c.in-Err.fault)
    (open_nothing (state g.S.Store c.args.conn.now) (state g.S.Store c.list_at_rest.new.conn) c.in-Err.fault
    (alone_nothing (state g.S.Store c.args.conn.now) (state g.S.Store c.list_at_rest.new.conn) c.list_at_rest.ensures.alone))
    (finds_nothing (state_in g.D.Disk c.args.contents.now.file) (Err c.in-Err.fault) tt)

pub returns-in-Err-clause-open : goal.returns-in-Err-clause-open
returns-in-Err-clause-open g c =
    open_nothing (state g.S.Store c.args.conn.now) (state g.S.Store c.list_at_rest.new.conn) c.in-Err.fault
    (alone_nothing (state g.S.Store c.args.conn.now) (state g.S.Store c.list_at_rest.new.conn) c.list_at_rest.ensures.alone)

pub returns-in-Err-clause-fault : goal.returns-in-Err-clause-fault
returns-in-Err-clause-fault g c known =
    found_sound known (store_in g.S.Store g.D.Disk c.args.conn.now c.args.contents.now.file)
    (store_in g.S.Store g.D.Disk c.list_at_rest.new.conn c.args.contents.now.file) c.in-Err.fault c.in-Err.ensures.fault
