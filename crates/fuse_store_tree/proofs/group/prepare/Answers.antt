use Rattle.std.proofs.Common.{[], ◌∙◌}
use Rattle.sqlite.specs.Held.{state}
use Rattle.fuse_keeper.specs.Group.{ids_of}
use Rattle.fuse_store_tables.specs.inner.Following.{earlier}
use Rattle.fuse_store_tree.proofs.Steps.{on_ok, on_error}
use Rattle.fuse_store_tree.specs.Group.{without_settled, with_lot_for}
use Rattle.fuse_store_tree.proofs.Turning.{turned_keeps, turned_then, ok_too}
use Rattle.fuse_store_tree.proofs.Groups.{lot_settled, left_settled}
use Rattle.fuse_store_tree.proofs.Sure.{left_sure}
use Rattle.fuse_store_tree.proofs.group.prepare.Goals as goal

pub returns-in-Ok-clause-turned : goal.returns-in-Ok-clause-turned
returns-in-Ok-clause-turned g c =
    on_ok c.take_lot.result _ _ (λ p file. turned_then file (without_settled (ids_of c.args.settled.now)) (with_lot_for c.args.lot) (state g.S.Store c.args.conn.now)
    (state g.S.Store c.settle.new.conn) (state g.S.Store c.take_lot.new.conn) (c.in-Ok.ensures.turned file) (p file)) c.take_lot.ensures.turned

pub returns-in-Ok-clause-value : goal.returns-in-Ok-clause-value
returns-in-Ok-clause-value g c = λ clean.
    ok_too c.take_lot.result _ _ _ (λ p n told file y at. told file (without_settled (ids_of c.args.settled.now) y)
    ((c.in-Ok.ensures.turned file).turns (earlier (state g.S.Store c.settle.new.conn) (state g.S.Store c.take_lot.new.conn) _ (p file).stays.survives clean) y at)
    ∙ lot_settled c.args.lot (ids_of c.args.settled.now) y) c.take_lot.ensures.turned (c.take_lot.ensures.value clean)

pub returns-in-Ok-clause-fails : goal.returns-in-Ok-clause-fails
returns-in-Ok-clause-fails g c =
    on_error c.take_lot.result _ _ (turned_keeps [] (without_settled (ids_of c.args.settled.now)) (state g.S.Store c.args.conn.now)
    (state g.S.Store c.settle.new.conn) (state g.S.Store c.take_lot.new.conn) (c.in-Ok.ensures.turned [])) c.take_lot.ensures.fails

pub returns-in-Ok-clause-fault : goal.returns-in-Ok-clause-fault
returns-in-Ok-clause-fault g c file =
    left_sure file c.args.lot (without_settled (ids_of c.args.settled.now)) (state g.S.Store c.args.conn.now) (state g.S.Store c.settle.new.conn)
    (state g.S.Store c.take_lot.new.conn) c.take_lot.result (c.in-Ok.ensures.turned file) c.take_lot.ensures.fails
    (left_settled c.args.lot (ids_of c.args.settled.now)) (c.take_lot.ensures.fault file)

pub returns-in-Err-clause-fault : goal.returns-in-Err-clause-fault
returns-in-Err-clause-fault g c file clean = λ y at left. c.in-Err.ensures.fault
