use Rattle.sqlite.specs.Held.{state}
use Rattle.fuse_store_tables.proofs.CounterRows.{one_makes, one_finds}
use Rattle.fuse_store_tables.proofs.Selects.{reads_within, one_select}
use Rattle.fuse_store_tables.proofs.counters.select_counter.Goals as goal

pub returns-clause-made : goal.returns-clause-made
returns-clause-made g c =
    one_makes (λ rows. rows.items) c.args.key (state g.S.Store c.args.conn.now) (state g.S.Store c.query_all.new.self) c.query_all.result (rw c.number-values.ensures at c.query_all.ensures.ok)
    (rw c.number-values.ensures at c.query_all.ensures.err) (rw c.number-values.ensures at c.query_all.ensures.survives)

pub returns-clause-found : goal.returns-clause-found
returns-clause-found g c =
    one_finds (λ rows. rows.items) c.args.key (state g.S.Store c.args.conn.now) (state g.S.Store c.query_all.new.self) c.query_all.result
    (rw c.number-values.ensures at c.query_all.ensures.ok)

pub returns-clause-within : goal.returns-clause-within
returns-clause-within g c =
    reads_within _ _ one_select (λ rows. rows.items) (state g.S.Store c.args.conn.now) (state g.S.Store c.query_all.new.self) c.query_all.result c.query_all.ensures.ok
    c.query_all.ensures.err c.query_all.ensures.survives
