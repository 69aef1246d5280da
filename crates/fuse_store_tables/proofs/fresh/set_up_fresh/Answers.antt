use Rattle.sqlite.specs.Held.{state}
use Rattle.fuse_store_tables.proofs.Alone.{left_alone, undone_alone, undone_kept, once_undone}
use Rattle.fuse_store_tables.proofs.Readied.{readied_undone}
use Rattle.fuse_store_tables.proofs.fresh.set_up_fresh.Goals as goal

pub returns-in-Ok-clause-alone : goal.returns-in-Ok-clause-alone
returns-in-Ok-clause-alone g c = λ other.
    left_alone (state g.S.Store c.args.conn.now) (state g.S.Store c.transact.new.conn) (c.in-Ok.ensures.alone other) c.in-Ok.ensures.ended

pub returns-in-Err-clause-alone : goal.returns-in-Err-clause-alone
returns-in-Err-clause-alone g c = λ other.
    undone_alone (state g.S.Store c.args.conn.now) (state g.S.Store c.transact.new.conn) (state g.S.Store c.undo.new.conn) (c.in-Err.ensures.alone other)
    c.undo.ensures

pub returns-in-Err-clause-refused : goal.returns-in-Err-clause-refused
returns-in-Err-clause-refused g c = λ refused.
    undone_alone (state g.S.Store c.args.conn.now) (state g.S.Store c.transact.new.conn) (state g.S.Store c.undo.new.conn) (c.in-Err.ensures.refused refused)
    c.undo.ensures

pub returns-in-Ok-clause-ended : goal.returns-in-Ok-clause-ended
returns-in-Ok-clause-ended g c = λ clean. (c.in-Ok.ensures.ended clean).0

pub returns-in-Err-clause-ended : goal.returns-in-Err-clause-ended
returns-in-Err-clause-ended g c = λ clean. c.undo.ensures.autocommit clean

pub returns-in-Err-clause-undone : goal.returns-in-Err-clause-undone
returns-in-Err-clause-undone g c = λ clean is_open.
    undone_kept (state g.S.Store c.args.conn.now) (state g.S.Store c.transact.new.conn) (state g.S.Store c.undo.new.conn) c.in-Err.ensures.keeps c.undo.ensures
    clean is_open

pub returns-in-Err-clause-once : goal.returns-in-Err-clause-once
returns-in-Err-clause-once g c =
    once_undone (state g.S.Store c.args.conn.now) (state g.S.Store c.transact.new.conn) (state g.S.Store c.undo.new.conn) c.in-Err.fault c.in-Err.fault
    c.in-Err.ensures.once c.undo.ensures

pub returns-in-Err-clause-left_of : goal.returns-in-Err-clause-left_of
returns-in-Err-clause-left_of g c =
    readied_undone g.B.BeforeCommit.makes g.B.BeforeCommit.leaves (state g.S.Store c.args.conn.now) (state g.S.Store c.transact.new.conn) (state g.S.Store c.undo.new.conn)
    c.args.before.now c.transact.new.before c.in-Err.fault c.in-Err.ensures.left_of c.undo.ensures
