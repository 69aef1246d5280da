use Rattle.sqlite.specs.Held.{state}
use Rattle.fuse_store_tables.proofs.Control.{goes_back, goes_nowhere}
use Rattle.fuse_store_tables.proofs.statements.go_back.Goals as goal

pub returns-in_err-prepare : goal.returns-in_err-prepare
returns-in_err-prepare g c =
    goes_nowhere (state g.S.Store c.args.conn.now) (state g.S.Store c.undo.new.conn) (state g.S.Store c.prepare.new.self) _ _
    c.from_residual.result c.from_residual.ensures.0 c.undo.ensures c.in_err-prepare.ensures.err c.in_err-prepare.ensures.survives

pub returns : goal.returns
returns g c =
    goes_back (state g.S.Store c.args.conn.now) (state g.S.Store c.undo.new.conn) (state g.S.Store c.prepare.new.self) c.in_ok-prepare.field-0 _ c.undo.ensures
    (λ clean. (c.in_ok-prepare.ensures.ok clean).1) c.in_ok-prepare.ensures.survives
