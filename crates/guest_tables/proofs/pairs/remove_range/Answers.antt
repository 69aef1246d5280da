use Rattle.std.proofs.Common.{length, sym}
use Rattle.std.proofs.lemmas.Bool.{eqb-true}
use Rattle.std.proofs.lemmas.List.{nil_from_length}
use Rattle.sqlite.specs.Held.{state}
use Rattle.guest_tables.proofs.PairRows.{clears, clears_from}
use Rattle.guest_tables.proofs.pairs.remove_range.Goals as goal

pub returns-then-is_empty : goal.returns-then-is_empty
returns-then-is_empty g c =
    clears_from c.args.from.now c.args.to.now (nil_from_length c.args.to.now (eqb-true (length c.args.to.now) 0 (sym c.if-is_empty.ensures)))
    (state g.S.Store c.args.conn.now) (state g.S.Store c.run.new.conn) c.run.result
    (rw c.one_value-values.ensures at c.run.ensures.runs) (rw c.one_value-values.ensures at c.run.ensures.survives)

pub returns-else-is_empty : goal.returns-else-is_empty
returns-else-is_empty g c =
    clears c.args.from.now c.args.to.now (sym c.if-is_empty.ensures)
    (state g.S.Store c.args.conn.now) (state g.S.Store c.run-else-is_empty.new.conn) c.run-else-is_empty.result
    (rw c.two_values-values.ensures at c.run-else-is_empty.ensures.runs) (rw c.two_values-values.ensures at c.run-else-is_empty.ensures.survives)
