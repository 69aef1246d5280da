use Rattle.std.proofs.Common.{◌≡◌, ◌*◌, length, sym, ap, arith, ◌∙◌}
use Rattle.sqlite.specs.Held.{state}
use Rattle.fuse_data.specs.Extents.{bytes_of}
use Rattle.fuse_data.specs.State.{state_in}
use Rattle.fuse_rows.specs.Bounds.{block_bytes}
use Rattle.fuse_store_tables.specs.inner.Following.{earlier}
use Rattle.fuse_store_tree.specs.Viewing.{view_in}
use Rattle.fuse_store_tree.specs.inner.Relisting.{IsAny}
use Rattle.fuse_store_tree.proofs.Asides.{aside_view, aside_count}
use Rattle.fuse_store_tree.proofs.Overs.{widens_of}
use Rattle.fuse_store_tree.proofs.MoveFiles.{adds_then, adds_aside, adds_widens}
use Rattle.fuse_store_tree.proofs.MoveSteps.{looks_moving, run_moving, still_sound}
use Rattle.fuse_store_tree.proofs.moving.move_run.Goals as goal

pub returns-in-Ok-None-clause-moved : goal.returns-in-Ok-None-clause-moved
returns-in-Ok-None-clause-moved g c =
    let f = view_in g.D.Disk c.args.contents.now in
    let r = view_in g.D.Disk c.read_run.new.contents in
    looks_moving f r IsAny (state g.S.Store c.args.conn.now) (state g.S.Store c.read_run.new.conn) c.in-Ok-None.ensures.looks (widens_of f r c.in-Ok-None.ensures.reads).kept

pub returns-in-Err-clause-fault : goal.returns-in-Err-clause-fault
returns-in-Err-clause-fault g c clean read k at sound = c.in-Err.ensures.fault clean _ k at sound

pub returns-in_default-clause-adds : goal.returns-in_default-clause-adds
returns-in_default-clause-adds g c =
    let s = state_in g.D.Disk c.args.contents.now.file in
    let t = state_in g.D.Disk c.read_run.new.contents.file in
    let u = state_in g.D.Disk c.set_aside.new.contents.file in
    adds_then s t u c.args.contents.now.written.items c.read_run.new.contents.written.items c.set_aside.new.contents.written.items
    (adds_widens s t c.args.contents.now.written.items c.read_run.new.contents.written.items
    (widens_of (view_in g.D.Disk c.args.contents.now) (view_in g.D.Disk c.read_run.new.contents) c.in-Ok-Some.ensures.reads))
    (adds_aside t u c.read_run.new.contents.written.items c.set_aside.new.contents.written.items c.set_aside.ensures.aside)

pub returns-in_default-clause-moved : goal.returns-in_default-clause-moved
returns-in_default-clause-moved g c =
    looks_moving (view_in g.D.Disk c.args.contents.now) (view_in g.D.Disk c.set_aside.new.contents) IsAny (state g.S.Store c.args.conn.now)
    (state g.S.Store c.read_run.new.conn) c.in-Ok-Some.ensures.looks (returns-in_default-clause-adds g c).view

pub returns-in-Ok-clause-adds : goal.returns-in-Ok-clause-adds
returns-in-Ok-clause-adds g c =
    let s = state_in g.D.Disk c.args.contents.now.file in
    let t = state_in g.D.Disk c.read_run.new.contents.file in
    let u = state_in g.D.Disk c.set_aside.new.contents.file in
    let v = state_in g.D.Disk c.list_move.new.contents.file in
    let ws = c.args.contents.now.written.items in
    let xs = c.read_run.new.contents.written.items in
    let ys = c.set_aside.new.contents.written.items in
    let zs = c.list_move.new.contents.written.items in
    adds_then s u v ws ys zs
    (adds_then s t u ws xs ys
    (adds_widens s t ws xs (widens_of (view_in g.D.Disk c.args.contents.now) (view_in g.D.Disk c.read_run.new.contents) c.in-Ok-Some.ensures.reads))
    (adds_aside t u xs ys c.set_aside.ensures.aside)) (adds_widens u v ys zs c.list_move.ensures.widens)

pub returns-in-Ok-clause-moved : goal.returns-in-Ok-clause-moved
returns-in-Ok-clause-moved g c =
    let r = view_in g.D.Disk c.read_run.new.contents in
    let t = state_in g.D.Disk c.read_run.new.contents.file in
    let u = state_in g.D.Disk c.set_aside.new.contents.file in
    let bytes = c.in-Ok-Some.bytes in
    let made = c.in-Some.ensures.written in
    let long : length bytes.items ≡ c.args.count * block_bytes = rw c.in-Ok-Some.field-0-is at c.in-Ok-Some.ensures.long in
    let count : c.in-Some.extent.count ≡ c.args.count =
    omega (arith, aside_count u c.set_aside.new.contents.written.items c.in-Some.extent c.as_slice.result.now made, ap length c.as_slice.ensures.value, long) in
    run_moving (view_in g.D.Disk c.args.contents.now) r (view_in g.D.Disk c.set_aside.new.contents) (view_in g.D.Disk c.list_move.new.contents)
    (record { node = c.args.node; first = c.args.first; count = c.args.count; place = c.in-Some.extent.place; sum = c.in-Some.extent.sum })
    bytes.items (state g.S.Store c.args.conn.now) (state g.S.Store c.read_run.new.conn) (state g.S.Store c.list_move.new.conn)
    (λ clean. (adds_aside t u c.read_run.new.contents.written.items c.set_aside.new.contents.written.items c.set_aside.ensures.aside).clean (c.list_move.ensures.widens.clean clean))
    c.in-Ok-Some.ensures.looks c.in-Ok-Some.ensures.reads
    (aside_view t u c.read_run.new.contents.written.items c.set_aside.new.contents.written.items c.set_aside.ensures.aside)
    (λ clean read. rw c.in-Ok-Some.field-0-is at (c.in-Ok-Some.ensures.stored clean read))
    (ap (λ n. bytes_of u.seen (record { place = c.in-Some.extent.place; count = n; sum = c.in-Some.extent.sum })) (sym count) ∙ made.same ∙ c.as_slice.ensures.value)
    c.in-Ok.ensures.moved

pub returns-clause-adds : goal.returns-clause-adds
returns-clause-adds g c =
    let s = state_in g.D.Disk c.args.contents.now.file in
    let t = state_in g.D.Disk c.read_run.new.contents.file in
    let u = state_in g.D.Disk c.set_aside.new.contents.file in
    let v = state_in g.D.Disk c.list_move.new.contents.file in
    let ws = c.args.contents.now.written.items in
    let xs = c.read_run.new.contents.written.items in
    let ys = c.set_aside.new.contents.written.items in
    let zs = c.list_move.new.contents.written.items in
    adds_then s u v ws ys zs
    (adds_then s t u ws xs ys
    (adds_widens s t ws xs (widens_of (view_in g.D.Disk c.args.contents.now) (view_in g.D.Disk c.read_run.new.contents) c.in-Ok-Some.ensures.reads))
    (adds_aside t u xs ys c.set_aside.ensures.aside)) (adds_widens u v ys zs c.list_move.ensures.widens)

pub returns-clause-fault : goal.returns-clause-fault
returns-clause-fault g c clean read k at sound =
    let s = state_in g.D.Disk c.args.contents.now.file in
    let t = state_in g.D.Disk c.read_run.new.contents.file in
    let u = state_in g.D.Disk c.set_aside.new.contents.file in
    let ws = c.args.contents.now.written.items in
    let xs = c.read_run.new.contents.written.items in
    let ys = c.set_aside.new.contents.written.items in
    let keeps = (adds_then s t u ws xs ys
    (adds_widens s t ws xs (widens_of (view_in g.D.Disk c.args.contents.now) (view_in g.D.Disk c.read_run.new.contents) c.in-Ok-Some.ensures.reads))
    (adds_aside t u xs ys c.set_aside.ensures.aside)).view in
    let mid = earlier (state g.S.Store c.read_run.new.conn) (state g.S.Store c.list_move.new.conn) _ c.in-Err-list_move.ensures.fails.survives clean in
    c.in-Err-list_move.ensures.fault clean read k (c.in-Ok-Some.ensures.looks.same mid k at)
    (still_sound (view_in g.D.Disk c.args.contents.now).bytes (view_in g.D.Disk c.set_aside.new.contents).bytes keeps k sound)
