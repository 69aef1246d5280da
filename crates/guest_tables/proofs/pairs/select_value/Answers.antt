use Rattle.sqlite.specs.Held.{state}
use Rattle.guest_tables.proofs.PairRows.{value_makes, value_shows}
use Rattle.guest_tables.proofs.pairs.select_value.Goals as goal

pub returns-clause-looks : goal.returns-clause-looks
returns-clause-looks g c =
    value_makes (λ rows. rows.items) c.args.key.now (state g.S.Store c.args.conn.now) (state g.S.Store c.query_all.new.self) c.query_all.result
    (rw c.one_value-values.ensures at c.query_all.ensures.ok) (rw c.one_value-values.ensures at c.query_all.ensures.err)
    (rw c.one_value-values.ensures at c.query_all.ensures.survives)

pub returns-clause-found : goal.returns-clause-found
returns-clause-found g c =
    value_shows (λ rows. rows.items) c.args.key.now (state g.S.Store c.args.conn.now) (state g.S.Store c.query_all.new.self) c.query_all.result
    (rw c.one_value-values.ensures at c.query_all.ensures.ok)
