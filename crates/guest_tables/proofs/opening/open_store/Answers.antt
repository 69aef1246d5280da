use Rattle.sqlite.specs.Held.{state}
use Rattle.guest_tables.proofs.any_schema.Alone.{left_alone, undone_alone}
use Rattle.guest_tables.proofs.opening.open_store.Goals as goal

pub returns-in-Ok-clause-alone : goal.returns-in-Ok-clause-alone
returns-in-Ok-clause-alone g c =
    left_alone (state g.S.Store c.args.conn.now) (state g.S.Store c.transact.new.conn) c.in-Ok.ensures.alone c.in-Ok.ensures.ended

pub returns-in-Err-clause-alone : goal.returns-in-Err-clause-alone
returns-in-Err-clause-alone g c =
    undone_alone (state g.S.Store c.args.conn.now) (state g.S.Store c.transact.new.conn) (state g.S.Store c.undo.new.conn) c.in-Err.ensures.alone
    c.undo.ensures
