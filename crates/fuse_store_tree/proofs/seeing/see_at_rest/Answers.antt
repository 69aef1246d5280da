use Rattle.sqlite.specs.Held.{state}
use Rattle.fuse_store_tables.specs.inner.Transaction.{served, undone, open_undone}
use Rattle.fuse_store_tables.specs.inner.Following.{earlier}
use Rattle.fuse_store_tree.specs.Knowing.{HeldForKnown}
use Rattle.fuse_store_tree.proofs.Whole.{rolled_back, serves_nothing}
use Rattle.fuse_store_tree.proofs.seeing.see_at_rest.Goals as goal

pub returns-in-Ok-clause-serves : goal.returns-in-Ok-clause-serves
returns-in-Ok-clause-serves g c = λ read.
    let bytes = (g.C.Contents.file c.see_inside.new.look.contents).bytes in
    served (HeldForKnown bytes c.args.look.now.known) (HeldForKnown bytes c.see_inside.new.look.known) (state g.S.Store c.args.look.now.conn)
    (state g.S.Store c.see_inside.new.look.conn) c.in-Ok.dones c.in-Ok.dones (c.in-Ok.ensures.performs read)

pub returns-in-Err-clause-serves : goal.returns-in-Err-clause-serves
returns-in-Err-clause-serves g c = λ read.
    let w = (g.C.Contents.file c.see_inside.new.look.contents) in
    let a = state g.S.Store c.args.look.now.conn in
    let d = state g.S.Store c.undo.new.conn in
    let m = c.args.look.now.known in
    let n = c.see_inside.new.look.known in
    serves_nothing w m n a d c.in-Err.fault
    (undone (HeldForKnown w.bytes m) (HeldForKnown w.bytes n) a (state g.S.Store c.see_inside.new.look.conn) d c.in-Err.fault c.in-Err.fault (c.in-Err.ensures.performs read)
    c.undo.ensures)

pub returns-in-Ok-clause-open : goal.returns-in-Ok-clause-open
returns-in-Ok-clause-open g c = c.in-Ok.ensures.open

pub returns-in-Err-clause-open : goal.returns-in-Err-clause-open
returns-in-Err-clause-open g c =
    open_undone (state g.S.Store c.args.look.now.conn) (state g.S.Store c.see_inside.new.look.conn) (state g.S.Store c.undo.new.conn) c.in-Err.fault
    c.in-Err.fault c.in-Err.ensures.open c.undo.ensures

pub returns-in-Ok-clause-alone : goal.returns-in-Ok-clause-alone
returns-in-Ok-clause-alone g c = c.in-Ok.ensures.alone

pub returns-in-Err-clause-alone : goal.returns-in-Err-clause-alone
returns-in-Err-clause-alone g c =
    rolled_back (state g.S.Store c.args.look.now.conn) (state g.S.Store c.see_inside.new.look.conn) (state g.S.Store c.undo.new.conn) c.in-Err.ensures.nothing
    c.undo.ensures

pub returns-in-Err-clause-fault : goal.returns-in-Err-clause-fault
returns-in-Err-clause-fault g c read clean =
    c.in-Err.ensures.fault read (earlier (state g.S.Store c.see_inside.new.look.conn) (state g.S.Store c.undo.new.conn) _ c.undo.ensures.survives clean)
