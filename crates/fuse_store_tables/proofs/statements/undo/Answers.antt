use Rattle.std.proofs.Common.{◌≡◌, refl, Bool, true, false, not}
use Rattle.sqlite.specs.Held.{state}
use Rattle.fuse_store_tables.proofs.Control.{undoes}
use Rattle.fuse_store_tables.proofs.statements.undo.Goals as goal

was_inside : (b : Bool) → false ≡ not b → b ≡ true
was_inside true e = refl
was_inside false e = absurd cc

pub returns-then-not-is_autocommit : goal.returns-then-not-is_autocommit
returns-then-not-is_autocommit g c =
    undoes (state g.S.Store c.args.conn.now) (state g.S.Store c.execute.new.self) c.execute.result (was_inside _ c.if-not-is_autocommit.ensures.value)
    c.execute.ensures.runs c.execute.ensures.survives
