use Rattle.std.proofs.Common.{[]}
use Rattle.sqlite.specs.Held.{state}
use Rattle.guest_tables.proofs.any_schema.Queries.{only_reads, reads_within}
use Rattle.guest_tables.proofs.RecordChecks.{records_look, records_find, records_select}
use Rattle.guest_tables.proofs.record_checks.select_records.Goals as goal

pub returns-clause-laid : goal.returns-clause-laid
returns-clause-laid g c =
    records_look (λ rows. rows.items) (state g.S.Store c.args.conn.now) (state g.S.Store c.query_all.new.self) c.query_all.result c.query_all.ensures.ok
    c.query_all.ensures.err c.query_all.ensures.survives

pub returns-clause-shows : goal.returns-clause-shows
returns-clause-shows g c =
    records_find (λ rows. rows.items) (state g.S.Store c.args.conn.now) (state g.S.Store c.query_all.new.self) c.query_all.result c.query_all.ensures.ok

pub returns-clause-reads : goal.returns-clause-reads
returns-clause-reads g c =
    only_reads _ [] records_select (λ rows. rows.items) (state g.S.Store c.args.conn.now) (state g.S.Store c.query_all.new.self) c.query_all.result
    c.query_all.ensures.ok c.query_all.ensures.err c.query_all.ensures.survives

pub returns-clause-within : goal.returns-clause-within
returns-clause-within g c =
    reads_within _ [] records_select (λ rows. rows.items) (state g.S.Store c.args.conn.now) (state g.S.Store c.query_all.new.self) c.query_all.result
    c.query_all.ensures.ok c.query_all.ensures.err c.query_all.ensures.survives
