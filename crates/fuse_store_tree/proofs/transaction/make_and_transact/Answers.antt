use Rattle.std.proofs.Common.{◌≡◌, [], map, sym, subst}
use Rattle.sqlite.specs.Held.{state}
use Rattle.fuse_data.specs.State.{state_in}
use Rattle.fuse_keeper.specs.Group.{ids_of, entries_of}
use Rattle.fuse_tree.specs.TheTree.{tree_of}
use Rattle.fuse_store_tree.specs.Group.{transacted, all_dones, lot_for}
use Rattle.fuse_store_tree.specs.StoreState.{store_in}
use Rattle.fuse_store_tree.specs.inner.Preparing.{WritesAside, AreForEach, IsMadeAside}
use Rattle.fuse_store_tree.specs.Pieces.{ReadsData}
use Rattle.fuse_store_tree.specs.inner.Laws.{still_data}
use Rattle.fuse_store_tree.proofs.Resting.{told_if, fault_if, transacts_aside, aside_failed_store, nothing_still}
use Rattle.fuse_store_tree.proofs.Whole.{once_none}
use Rattle.fuse_store_tree.proofs.transaction.make_and_transact.Goals as goal

-- ---- what was to be written failed

pub returns-in-Err-clause-performs : goal.returns-in-Err-clause-performs
returns-in-Err-clause-performs g c =
    aside_failed_store c.args.look.now.known c.args.look.now.known
    (transacted (tree_of c.args.profile).service c.args.lot (ids_of c.args.settled.now) (entries_of c.args.group.now))
    (store_in g.S.Store g.D.Disk c.args.look.now.conn c.args.look.now.contents.file)
    (store_in g.S.Store g.D.Disk c.args.look.now.conn c.make_group.new.contents.file) c.make_group.new.contents.written.items c.in-Err.fault
    (subst (λ l. WritesAside (state_in g.D.Disk c.args.look.now.contents.file) (state_in g.D.Disk c.make_group.new.contents.file) l c.make_group.new.contents.written.items)
    c.requires.empty c.make_group.ensures.aside)
    (nothing_still (state g.S.Store c.args.look.now.conn))

pub returns-in-Err-clause-fault : goal.returns-in-Err-clause-fault
returns-in-Err-clause-fault g c = λ honest y at left. c.in-Err.ensures.fault

pub returns-in-Err-clause-open : goal.returns-in-Err-clause-open
returns-in-Err-clause-open g c = record { was = λ clean is_open. is_open; still = tt }

pub returns-in-Err-clause-refused : goal.returns-in-Err-clause-refused
returns-in-Err-clause-refused g c = λ refused. nothing_still (state g.S.Store c.args.look.now.conn)

pub returns-in-Err-clause-keeps : goal.returns-in-Err-clause-keeps
returns-in-Err-clause-keeps g c = (nothing_still (state g.S.Store c.args.look.now.conn)).kept

pub returns-in-Err-clause-once : goal.returns-in-Err-clause-once
returns-in-Err-clause-once g c =
    once_none (state g.S.Store c.args.look.now.conn) (state g.S.Store c.args.look.now.conn) c.in-Err.fault (nothing_still (state g.S.Store c.args.look.now.conn))

-- ---- what was written

pub transact-requires-clause-made : goal.transact-requires-clause-made
transact-requires-clause-made g c =
    let s = state_in g.D.Disk c.make_group.new.contents.file in
    let ws = c.make_group.new.contents.written.items in
    subst (λ l. AreForEach (IsMadeAside s ws) (entries_of c.args.group.now) (map (λ v. v.items) l)) (sym c.as_slice-pieces.ensures.value) c.in-Ok.ensures.made

pub returns-clause-performs : goal.returns-clause-performs
returns-clause-performs g c =
    let s = state_in g.D.Disk c.args.look.now.contents.file in
    let was = c.make_group.new.contents.written.items in
    transacts_aside c.args.look.now.known c.transact.new.look.known
    (transacted (tree_of c.args.profile).service c.args.lot (ids_of c.args.settled.now) (entries_of c.args.group.now))
    (store_in g.S.Store g.D.Disk c.args.look.now.conn c.args.look.now.contents.file)
    (store_in g.S.Store g.D.Disk c.transact.new.look.conn c.transact.new.look.contents.file) (state_in g.D.Disk c.make_group.new.contents.file) was
    c.transact.new.look.contents.written.items _ c.transact.result
    (subst (λ l. WritesAside s (state_in g.D.Disk c.make_group.new.contents.file) l was) c.requires.empty c.make_group.ensures.aside)
    c.transact.ensures.contents
    (λ none. subst (λ file. ReadsData s (state_in g.D.Disk file)) (sym (c.in-Ok.ensures.idle (c.has_written-wrote.ensures none))) (still_data s))
    c.transact.ensures.performs

pub returns-clause-lot : goal.returns-clause-lot
returns-clause-lot g c =
    let s = state_in g.D.Disk c.args.look.now.contents.file in
    let was = c.make_group.new.contents.written.items in
    told_if c.args.look.now.known (store_in g.S.Store g.D.Disk c.args.look.now.conn c.args.look.now.contents.file)
    (store_in g.S.Store g.D.Disk c.transact.new.look.conn c.transact.new.look.contents.file) (state_in g.D.Disk c.make_group.new.contents.file) was
    (subst (λ l. WritesAside s (state_in g.D.Disk c.make_group.new.contents.file) l was) c.requires.empty c.make_group.ensures.aside)
    c.transact.result (λ p y. p.lot ≡ lot_for c.args.lot y) c.transact.ensures.lot

pub returns-clause-dones : goal.returns-clause-dones
returns-clause-dones g c =
    let s = state_in g.D.Disk c.args.look.now.contents.file in
    let was = c.make_group.new.contents.written.items in
    told_if c.args.look.now.known (store_in g.S.Store g.D.Disk c.args.look.now.conn c.args.look.now.contents.file)
    (store_in g.S.Store g.D.Disk c.transact.new.look.conn c.transact.new.look.contents.file) (state_in g.D.Disk c.make_group.new.contents.file) was
    (subst (λ l. WritesAside s (state_in g.D.Disk c.make_group.new.contents.file) l was) c.requires.empty c.make_group.ensures.aside)
    c.transact.result
    (λ p y. p.dones.items ≡ all_dones (tree_of c.args.profile).service c.args.lot (ids_of c.args.settled.now) (entries_of c.args.group.now) y) c.transact.ensures.dones

pub returns-clause-fault : goal.returns-clause-fault
returns-clause-fault g c =
    let s = state_in g.D.Disk c.args.look.now.contents.file in
    let was = c.make_group.new.contents.written.items in
    fault_if c.args.look.now.known (store_in g.S.Store g.D.Disk c.args.look.now.conn c.args.look.now.contents.file)
    (store_in g.S.Store g.D.Disk c.transact.new.look.conn c.transact.new.look.contents.file) (state_in g.D.Disk c.make_group.new.contents.file) was
    (subst (λ l. WritesAside s (state_in g.D.Disk c.make_group.new.contents.file) l was) c.requires.empty c.make_group.ensures.aside)
    c.args.lot c.transact.result c.transact.ensures.fault
