use Rattle.sqlite.specs.Held.{state}
use Rattle.guest_tables.proofs.any_schema.Alone.{undone_alone, undone_kept, once_undone}
use Rattle.guest_tables.proofs.fresh.open_fresh.Goals as goal

pub returns-in-Err-clause-refused : goal.returns-in-Err-clause-refused
returns-in-Err-clause-refused g c = λ refused.
    undone_alone (state g.S.Store c.args.conn.now) (state g.S.Store c.transact.new.conn) (state g.S.Store c.undo.new.conn) (c.in-Err.ensures.refused refused)
    c.undo.ensures

pub returns-in-Ok-clause-ended : goal.returns-in-Ok-clause-ended
returns-in-Ok-clause-ended g c = λ clean. c.in-Ok.ensures.ended clean

pub returns-in-Err-clause-ended : goal.returns-in-Err-clause-ended
returns-in-Err-clause-ended g c = λ clean. c.undo.ensures.autocommit clean

pub returns-in-Err-clause-undone : goal.returns-in-Err-clause-undone
returns-in-Err-clause-undone g c = λ clean is_open.
    undone_kept (state g.S.Store c.args.conn.now) (state g.S.Store c.transact.new.conn) (state g.S.Store c.undo.new.conn) c.in-Err.ensures.keeps c.undo.ensures
    clean is_open

pub returns-in-Err-clause-once : goal.returns-in-Err-clause-once
returns-in-Err-clause-once g c =
    once_undone (state g.S.Store c.args.conn.now) (state g.S.Store c.transact.new.conn) (state g.S.Store c.undo.new.conn) c.in-Err.fault c.in-Err.fault
    c.in-Err.ensures.once c.undo.ensures
