use Rattle.sqlite.specs.Held.{state}
use Rattle.fuse_store_tables.proofs.CounterRows.{one_select}
use Rattle.fuse_store_tables.proofs.Resting.{peeks_open}
use Rattle.fuse_store_tables.proofs.Selects.{only_reads}
use Rattle.fuse_store_tables.proofs.StoreNumbers.{peek_serves, peek_finds}
use Rattle.fuse_store_tables.proofs.store_number.select_number.Goals as goal

pub returns-clause-rests : goal.returns-clause-rests
returns-clause-rests g c =
    peek_serves (λ rows. rows.items) 15 (state g.S.Store c.args.conn.now) (state g.S.Store c.query_all.new.self) c.query_all.result
    (rw c.number-values.ensures at c.query_all.ensures.ok) (rw c.number-values.ensures at c.query_all.ensures.err)
    (rw c.number-values.ensures at c.query_all.ensures.survives)

pub returns-clause-found : goal.returns-clause-found
returns-clause-found g c =
    peek_finds (λ rows. rows.items) 15 (state g.S.Store c.args.conn.now) (state g.S.Store c.query_all.new.self) c.query_all.result
    (rw c.number-values.ensures at c.query_all.ensures.ok)

pub returns-clause-open : goal.returns-clause-open
returns-clause-open g c =
    peeks_open _ _ (λ rows. rows.items) (state g.S.Store c.args.conn.now) (state g.S.Store c.query_all.new.self) c.query_all.result c.query_all.ensures.ok
    c.query_all.ensures.err

pub returns-clause-reads : goal.returns-clause-reads
returns-clause-reads g c =
    only_reads _ _ one_select (λ rows. rows.items) (state g.S.Store c.args.conn.now) (state g.S.Store c.query_all.new.self) c.query_all.result
    c.query_all.ensures.ok c.query_all.ensures.err c.query_all.ensures.survives
