use Rattle.sqlite.specs.Held.{state}
use Rattle.fuse_keeper.specs.Group.{ids_of, entries_of}
use Rattle.fuse_store_tables.specs.inner.Following.{earlier}
use Rattle.fuse_tree.specs.TheTree.{tree_of}
use Rattle.fuse_store_tree.specs.Group.{prepared}
use Rattle.fuse_store_tree.specs.Knowing.{HeldForKnown}
use Rattle.fuse_store_tree.proofs.KnownSteps.{held_for}
use Rattle.fuse_store_tree.proofs.Turning.{turned_keeps}
use Rattle.fuse_store_tree.proofs.Groups.{prepared_known}
use Rattle.fuse_store_tree.proofs.GroupsOver.{grouped_over, dones_are_over}
use Rattle.fuse_store_tree.proofs.Sure.{fault_next}
use Rattle.fuse_store_tree.proofs.group.perform_in.Goals as goal

pub returns-in-Ok-take_all-clause-turned : goal.returns-in-Ok-take_all-clause-turned
returns-in-Ok-take_all-clause-turned g c =
    grouped_over (g.C.Contents.file c.args.look.now.contents) (g.C.Contents.file c.take_all.new.look.contents) (tree_of c.args.profile).service
    c.args.look.now.known c.take_all.new.look.known c.args.lot c.in-Ok.lot (ids_of c.args.settled.now) (entries_of c.args.group.now)
    (state g.S.Store c.args.look.now.conn) (state g.S.Store c.prepare.new.conn) (state g.S.Store c.take_all.new.look.conn) c.in-Ok-take_all.ensures.widens.clean
    c.in-Ok.ensures.turned c.in-Ok.ensures.value c.in-Ok-take_all.ensures.turned

pub returns-in-Ok-take_all-clause-lot : goal.returns-in-Ok-take_all-clause-lot
returns-in-Ok-take_all-clause-lot g c = λ clean.
    c.in-Ok.ensures.value (earlier (state g.S.Store c.prepare.new.conn) (state g.S.Store c.take_all.new.look.conn) _
    c.in-Ok-take_all.ensures.turned.stays.survives clean)

pub returns-in-Ok-take_all-clause-dones : goal.returns-in-Ok-take_all-clause-dones
returns-in-Ok-take_all-clause-dones g c =
    dones_are_over (g.C.Contents.file c.args.look.now.contents) (g.C.Contents.file c.take_all.new.look.contents) (tree_of c.args.profile).service
    c.args.look.now.known c.args.lot c.in-Ok.lot (ids_of c.args.settled.now) (entries_of c.args.group.now) (state g.S.Store c.args.look.now.conn)
    (state g.S.Store c.prepare.new.conn) (state g.S.Store c.take_all.new.look.conn) c.in-Ok-take_all.dones.items c.in-Ok-take_all.ensures.widens.clean
    c.in-Ok.ensures.turned c.in-Ok.ensures.value c.in-Ok-take_all.ensures.turned.stays c.in-Ok-take_all.ensures.dones

pub returns-in-Err-take_all-clause-fails : goal.returns-in-Err-take_all-clause-fails
returns-in-Err-take_all-clause-fails g c =
    let f = g.C.Contents.file c.args.look.now.contents in
    turned_keeps f.bytes (prepared c.args.lot (ids_of c.args.settled.now)) (state g.S.Store c.args.look.now.conn) (state g.S.Store c.prepare.new.conn)
    (state g.S.Store c.take_all.new.look.conn) (c.in-Ok.ensures.turned f.bytes) c.in-Err-take_all.ensures.fails

pub returns-in-Err-take_all-clause-fault : goal.returns-in-Err-take_all-clause-fault
returns-in-Err-take_all-clause-fault g c read clean y at left =
    let f = g.C.Contents.file c.args.look.now.contents in
    let m = c.args.look.now.known in
    let ids = ids_of c.args.settled.now in
    let a = state g.S.Store c.args.look.now.conn in
    let b = state g.S.Store c.prepare.new.conn in
    fault_next (HeldForKnown f.bytes m) (HeldForKnown f.bytes m) a b (state g.S.Store c.take_all.new.look.conn) c.in-Err-take_all.fault c.in-Err-take_all.ensures.fails
    (λ mid (z, there). (
      prepared c.args.lot ids z,
      (prepared_known f m c.args.lot ids a b (c.in-Ok.ensures.turned f.bytes)).turns (c.in-Err-take_all.ensures.widens.clean read) mid z there,
    ))
    (c.in-Err-take_all.ensures.fault read) clean (y, at)

pub returns-in-Err-clause-fails : goal.returns-in-Err-clause-fails
returns-in-Err-clause-fails g c =
    c.in-Err.ensures.fails

pub returns-in-Err-clause-fault : goal.returns-in-Err-clause-fault
returns-in-Err-clause-fault g c read clean y at left =
    let f = g.C.Contents.file c.args.look.now.contents in
    c.in-Err.ensures.fault f.bytes clean y (held_for f.bytes c.args.look.now.known y (state g.S.Store c.args.look.now.conn) at) left
