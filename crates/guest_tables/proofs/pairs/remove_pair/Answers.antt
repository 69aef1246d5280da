use Rattle.sqlite.specs.Held.{state}
use Rattle.guest_tables.proofs.PairRows.{deletes}
use Rattle.guest_tables.proofs.pairs.remove_pair.Goals as goal

pub returns : goal.returns
returns g c =
    deletes c.args.key.now (state g.S.Store c.args.conn.now) (state g.S.Store c.run.new.conn) c.run.result
    (rw c.one_value-values.ensures at c.run.ensures.runs) (rw c.one_value-values.ensures at c.run.ensures.survives)
