use Rattle.sqlite.specs.Held.{state}
use Rattle.guest_tables.proofs.PairRows.{adds}
use Rattle.guest_tables.proofs.pairs.insert_pair.Goals as goal

pub returns : goal.returns
returns g c =
    adds c.args.key.now c.args.value.now (state g.S.Store c.args.conn.now) (state g.S.Store c.run.new.conn) c.run.result
    (rw c.two_values-values.ensures at c.run.ensures.runs) (rw c.two_values-values.ensures at c.run.ensures.survives)
