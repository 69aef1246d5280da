use Rattle.std.proofs.Common.{[]}
use Rattle.sqlite.specs.Held.{state}
use Rattle.guest_tables.proofs.RecordCounts.{kept_count_serves, kept_count_finds}
use Rattle.guest_tables.proofs.any_schema.Resting.{peeks_open}
use Rattle.guest_tables.proofs.RecordCounts.{kept_select}
use Rattle.guest_tables.proofs.any_schema.Queries.{only_reads}
use Rattle.guest_tables.proofs.records.select_count.Goals as goal

pub returns-clause-rests : goal.returns-clause-rests
returns-clause-rests g c =
    kept_count_serves (λ rows. rows.items) (state g.S.Store c.args.conn.now) (state g.S.Store c.query_all.new.self) c.query_all.result c.query_all.ensures.ok
    c.query_all.ensures.err c.query_all.ensures.survives

pub returns-clause-found : goal.returns-clause-found
returns-clause-found g c =
    kept_count_finds (λ rows. rows.items) (state g.S.Store c.args.conn.now) (state g.S.Store c.query_all.new.self) c.query_all.result c.query_all.ensures.ok

pub returns-clause-open : goal.returns-clause-open
returns-clause-open g c =
    peeks_open _ _ (λ rows. rows.items) (state g.S.Store c.args.conn.now) (state g.S.Store c.query_all.new.self) c.query_all.result c.query_all.ensures.ok
    c.query_all.ensures.err

pub returns-clause-reads : goal.returns-clause-reads
returns-clause-reads g c =
    only_reads _ [] kept_select (λ rows. rows.items) (state g.S.Store c.args.conn.now) (state g.S.Store c.query_all.new.self) c.query_all.result
    c.query_all.ensures.ok
    c.query_all.ensures.err c.query_all.ensures.survives
