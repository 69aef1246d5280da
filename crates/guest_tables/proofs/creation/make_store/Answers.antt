use Rattle.sqlite.specs.Held.{state}
use Rattle.fuse_store_tables.specs.Layout.{no_schema}
use Rattle.fuse_store_tables.specs.Making.{IsBare}
use Rattle.guest_tables.specs.Making.{IsNew}
use Rattle.fuse_store_tables.specs.inner.Following.{earlier}
use Rattle.guest_tables.proofs.any_schema.Joining.{undone}
use Rattle.guest_tables.proofs.any_schema.Alone.{left_alone, undone_alone}
use Rattle.guest_tables.proofs.creation.make_store.Goals as goal

pub returns-in-Err-clause-serves : goal.returns-in-Err-clause-serves
returns-in-Err-clause-serves g c =
    undone (IsBare no_schema) (IsNew c.args.number) _ _ _ _ _ c.in-Err.ensures.performs c.undo.ensures

pub returns-in-Err-clause-fault : goal.returns-in-Err-clause-fault
returns-in-Err-clause-fault g c clean =
    let before = state g.S.Store c.transact.new.conn in
    c.in-Err.ensures.fault (earlier before (state g.S.Store c.undo.new.conn) _ c.undo.ensures.survives clean)

pub returns-in-Ok-clause-ended : goal.returns-in-Ok-clause-ended
returns-in-Ok-clause-ended g c = λ clean. (c.in-Ok.ensures.ended clean).0

pub returns-in-Err-clause-ended : goal.returns-in-Err-clause-ended
returns-in-Err-clause-ended g c = λ clean. c.undo.ensures.autocommit clean

pub returns-in-Ok-clause-alone : goal.returns-in-Ok-clause-alone
returns-in-Ok-clause-alone g c = λ other.
    left_alone (state g.S.Store c.args.conn.now) (state g.S.Store c.transact.new.conn) (c.in-Ok.ensures.alone other) c.in-Ok.ensures.ended

pub returns-in-Err-clause-alone : goal.returns-in-Err-clause-alone
returns-in-Err-clause-alone g c = λ other.
    undone_alone (state g.S.Store c.args.conn.now) (state g.S.Store c.transact.new.conn) (state g.S.Store c.undo.new.conn) (c.in-Err.ensures.alone other)
    c.undo.ensures
