use Rattle.std.proofs.Common.{[]}
use Rattle.sqlite.specs.Held.{state}
use Rattle.guest_tables.proofs.Looks.{looked, failed}
use Rattle.guest_tables.proofs.CounterRows.{look_makes, look_finds, peek_serves, peek_finds}
use Rattle.guest_tables.proofs.any_schema.Resting.{peeks_open}
use Rattle.guest_tables.proofs.CounterRows.{select_reads}
use Rattle.guest_tables.proofs.any_schema.Queries.{only_reads}
use Rattle.guest_tables.proofs.counters.select_counters.Goals as goal

pub returns-clause-looks : goal.returns-clause-looks
returns-clause-looks g c = looked (state g.S.Store c.args.conn.now) (state g.S.Store c.query_all.new.self) c.query_all.result (look_makes (λ rows. rows.items)
    (state g.S.Store c.args.conn.now) (state g.S.Store c.query_all.new.self) c.query_all.result c.query_all.ensures.ok c.query_all.ensures.err
    c.query_all.ensures.survives)

pub returns-clause-fails : goal.returns-clause-fails
returns-clause-fails g c = failed (state g.S.Store c.args.conn.now) (state g.S.Store c.query_all.new.self) c.query_all.result (look_makes (λ rows. rows.items)
    (state g.S.Store c.args.conn.now) (state g.S.Store c.query_all.new.self) c.query_all.result c.query_all.ensures.ok c.query_all.ensures.err
    c.query_all.ensures.survives)

pub returns-clause-found : goal.returns-clause-found
returns-clause-found g c =
    look_finds (λ rows. rows.items) (state g.S.Store c.args.conn.now) (state g.S.Store c.query_all.new.self) c.query_all.result c.query_all.ensures.ok

pub returns-clause-rests : goal.returns-clause-rests
returns-clause-rests g c =
    peek_serves (λ rows. rows.items) (state g.S.Store c.args.conn.now) (state g.S.Store c.query_all.new.self) c.query_all.result c.query_all.ensures.ok
    c.query_all.ensures.err c.query_all.ensures.survives

pub returns-clause-found_at_rest : goal.returns-clause-found_at_rest
returns-clause-found_at_rest g c =
    peek_finds (λ rows. rows.items) (state g.S.Store c.args.conn.now) (state g.S.Store c.query_all.new.self) c.query_all.result c.query_all.ensures.ok

pub returns-clause-open : goal.returns-clause-open
returns-clause-open g c =
    peeks_open _ _ (λ rows. rows.items) (state g.S.Store c.args.conn.now) (state g.S.Store c.query_all.new.self) c.query_all.result c.query_all.ensures.ok
    c.query_all.ensures.err

pub returns-clause-reads : goal.returns-clause-reads
returns-clause-reads g c =
    only_reads _ [] select_reads (λ rows. rows.items) (state g.S.Store c.args.conn.now) (state g.S.Store c.query_all.new.self) c.query_all.result
    c.query_all.ensures.ok
    c.query_all.ensures.err c.query_all.ensures.survives
