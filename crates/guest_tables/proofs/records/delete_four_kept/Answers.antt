use Rattle.sqlite.specs.Held.{state}
use Rattle.guest_tables.proofs.FourGone.{removes_four}
use Rattle.guest_tables.proofs.records.delete_four_kept.Goals as goal

pub returns : goal.returns
returns g c =
    removes_four c.args.first c.args.second c.args.third c.args.last c.requires.second c.requires.third c.requires.last (state g.S.Store c.args.conn.now)
    (state g.S.Store c.run.new.conn) c.run.result (rw c.four_values-values.ensures at c.run.ensures.runs)
    (rw c.four_values-values.ensures at c.run.ensures.survives)
