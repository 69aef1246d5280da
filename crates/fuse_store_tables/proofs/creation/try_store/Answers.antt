use Rattle.sqlite.specs.Held.{state}
use Rattle.fuse_store_tables.specs.inner.Following.{earlier}
use Rattle.fuse_store_tables.proofs.Alone.{undone_alone}
use Rattle.fuse_store_tables.proofs.creation.try_store.Goals as goal

pub returns-clause-alone : goal.returns-clause-alone
returns-clause-alone g c =
    undone_alone (state g.S.Store c.args.conn.now) (state g.S.Store c.attempt-tried.new.conn) (state g.S.Store c.undo.new.conn) c.attempt-tried.ensures.nothing
    c.undo.ensures

pub returns-clause-taken : goal.returns-clause-taken
returns-clause-taken g c = λ clean outside has.
    c.attempt-tried.ensures.taken (earlier (state g.S.Store c.attempt-tried.new.conn) (state g.S.Store c.undo.new.conn) _ c.undo.ensures.survives clean) outside has
