use Rattle.std.proofs.Common.{◌≡◌, sym, subst}
use Rattle.std.specs.Prelude.{map}
use Rattle.sqlite.specs.Held.{state}
use Rattle.fuse_data.specs.State.{state_in}
use Rattle.fuse_keeper.specs.Group.{ids_of, entries_of}
use Rattle.fuse_store_tables.specs.inner.Following.{earlier}
use Rattle.fuse_tree.specs.TheTree.{tree_of}
use Rattle.fuse_store_tree.specs.Group.{transacted}
use Rattle.fuse_store_tree.specs.Pieces.{ReadsData}
use Rattle.fuse_store_tree.specs.Viewing.{view_in}
use Rattle.fuse_store_tree.specs.inner.Laws.{still_data, data_then}
use Rattle.fuse_store_tree.specs.inner.Preparing.{IsMade, IsMadeAside}
use Rattle.fuse_store_tree.proofs.Asides.{each_weaker}
use Rattle.fuse_store_tree.proofs.KnownSteps.{held_for}
use Rattle.fuse_store_tree.proofs.MoveFiles.{adds_then, adds_widens, made_still}
use Rattle.fuse_store_tree.proofs.Overs.{turned_over_then, turned_over_keeps}
use Rattle.fuse_store_tree.proofs.moved_group.move_and_perform.Goals as goal

pub perform_in-requires-clause-made : goal.perform_in-requires-clause-made
perform_in-requires-clause-made g c =
    let s = state_in g.D.Disk c.args.look.now.contents.file in
    let t = state_in g.D.Disk c.move_rows.new.contents.file in
    let ws = c.args.look.now.contents.written.items in
    each_weaker (IsMadeAside s ws) (IsMade t.seen) (made_still s t ws c.move_rows.new.contents.written.items c.move_rows.ensures.adds) (entries_of c.args.group.now)
    (map (λ v. v.items) c.args.made.now) c.requires.made

pub returns-in-Ok-perform_in-clause-adds : goal.returns-in-Ok-perform_in-clause-adds
returns-in-Ok-perform_in-clause-adds g c =
    let s = state_in g.D.Disk c.args.look.now.contents.file in
    let t = state_in g.D.Disk c.move_rows.new.contents.file in
    let u = state_in g.D.Disk c.perform_in.new.look.contents.file in
    let xs = c.move_rows.new.contents.written.items in
    let ys = c.perform_in.new.look.contents.written.items in
    adds_then s t u c.args.look.now.contents.written.items xs ys c.move_rows.ensures.adds (adds_widens t u xs ys c.perform_in.ensures.widens)

pub returns-in-Err-perform_in-clause-adds : goal.returns-in-Err-perform_in-clause-adds
returns-in-Err-perform_in-clause-adds g c =
    let s = state_in g.D.Disk c.args.look.now.contents.file in
    let t = state_in g.D.Disk c.move_rows.new.contents.file in
    let u = state_in g.D.Disk c.perform_in.new.look.contents.file in
    let xs = c.move_rows.new.contents.written.items in
    let ys = c.perform_in.new.look.contents.written.items in
    adds_then s t u c.args.look.now.contents.written.items xs ys c.move_rows.ensures.adds (adds_widens t u xs ys c.perform_in.ensures.widens)

pub returns-in-Ok-perform_in-clause-idle : goal.returns-in-Ok-perform_in-clause-idle
returns-in-Ok-perform_in-clause-idle g c = λ none.
    let s = state_in g.D.Disk c.args.look.now.contents.file in
    let t = state_in g.D.Disk c.move_rows.new.contents.file in
    let u = state_in g.D.Disk c.perform_in.new.look.contents.file in
    data_then s t u (subst (λ file. ReadsData s (state_in g.D.Disk file)) (sym (c.in-Ok.ensures.idle none)) (still_data s)) c.perform_in.ensures.widens.contents

pub returns-in-Ok-perform_in-clause-turned : goal.returns-in-Ok-perform_in-clause-turned
returns-in-Ok-perform_in-clause-turned g c =
    let m = c.args.look.now.known in
    turned_over_then (view_in g.D.Disk c.args.look.now.contents) (view_in g.D.Disk c.move_rows.new.contents) (view_in g.D.Disk c.perform_in.new.look.contents) m m
    c.perform_in.new.look.known (λ y. y) (transacted (tree_of c.args.profile).service c.args.lot (ids_of c.args.settled.now) (entries_of c.args.group.now))
    (state g.S.Store c.args.look.now.conn) (state g.S.Store c.move_rows.new.conn) (state g.S.Store c.perform_in.new.look.conn)
    (λ read. c.perform_in.ensures.widens.clean read) (c.in-Ok.ensures.turned m) c.in-Ok-perform_in.ensures.turned

pub returns-in-Ok-perform_in-clause-lot : goal.returns-in-Ok-perform_in-clause-lot
returns-in-Ok-perform_in-clause-lot g c = λ clean read y at.
    let m = c.args.look.now.known in
    let b = state g.S.Store c.move_rows.new.conn in
    let file = (view_in g.D.Disk c.move_rows.new.contents).bytes in
    let mid = earlier b (state g.S.Store c.perform_in.new.look.conn) _ c.in-Ok-perform_in.ensures.turned.stays.survives clean in
    c.in-Ok-perform_in.ensures.lot clean file y (held_for file m y b ((c.in-Ok.ensures.turned m).turns (c.perform_in.ensures.widens.clean read) mid y at))

pub returns-in-Ok-perform_in-clause-dones : goal.returns-in-Ok-perform_in-clause-dones
returns-in-Ok-perform_in-clause-dones g c = λ clean read y at.
    let m = c.args.look.now.known in
    let b = state g.S.Store c.move_rows.new.conn in
    let mid = earlier b (state g.S.Store c.perform_in.new.look.conn) _ c.in-Ok-perform_in.ensures.turned.stays.survives clean in
    c.in-Ok-perform_in.ensures.dones clean read y ((c.in-Ok.ensures.turned m).turns (c.perform_in.ensures.widens.clean read) mid y at)

pub returns-in-Err-perform_in-clause-fails : goal.returns-in-Err-perform_in-clause-fails
returns-in-Err-perform_in-clause-fails g c =
    let m = c.args.look.now.known in
    turned_over_keeps (view_in g.D.Disk c.args.look.now.contents) (view_in g.D.Disk c.move_rows.new.contents) m m (λ y. y) (state g.S.Store c.args.look.now.conn)
    (state g.S.Store c.move_rows.new.conn) (state g.S.Store c.perform_in.new.look.conn) (c.in-Ok.ensures.turned m) c.in-Err-perform_in.ensures.fails

pub returns-in-Err-clause-fault : goal.returns-in-Err-clause-fault
returns-in-Err-clause-fault g c read clean y at left = c.in-Err.ensures.fault clean read c.args.look.now.known y at

pub returns-in-Err-perform_in-clause-fault : goal.returns-in-Err-perform_in-clause-fault
returns-in-Err-perform_in-clause-fault g c read clean y at left =
    let m = c.args.look.now.known in
    let b = state g.S.Store c.move_rows.new.conn in
    let mid = earlier b (state g.S.Store c.perform_in.new.look.conn) _ c.in-Err-perform_in.ensures.fails.survives clean in
    c.in-Err-perform_in.ensures.fault read clean y ((c.in-Ok.ensures.turned m).turns (c.perform_in.ensures.widens.clean read) mid y at) left
