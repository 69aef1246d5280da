use Rattle.std.proofs.Common.{[]}
use Rattle.sqlite.specs.Held.{state}
use Rattle.guest_tables.proofs.any_schema.Queries.{only_reads, reads_within}
use Rattle.guest_tables.proofs.MetaRows.{version_looks, version_finds, version_select, says_version}
use Rattle.guest_tables.proofs.meta.select_version.Goals as goal

pub returns-clause-laid : goal.returns-clause-laid
returns-clause-laid g c = version_looks (λ rows. rows.items) (state g.S.Store c.args.conn.now) (state g.S.Store c.query_all.new.self) c.query_all.result c.query_all.ensures.ok c.query_all.ensures.err c.query_all.ensures.survives

pub returns-clause-shows : goal.returns-clause-shows
returns-clause-shows g c = version_finds (λ rows. rows.items) (state g.S.Store c.args.conn.now) (state g.S.Store c.query_all.new.self) c.query_all.result c.query_all.ensures.ok

pub returns-clause-reports : goal.returns-clause-reports
returns-clause-reports g c = says_version (λ rows. rows.items) (state g.S.Store c.args.conn.now) (state g.S.Store c.query_all.new.self) c.query_all.result c.query_all.ensures.ok

pub returns-clause-reads : goal.returns-clause-reads
returns-clause-reads g c = only_reads _ [] version_select (λ rows. rows.items) (state g.S.Store c.args.conn.now) (state g.S.Store c.query_all.new.self) c.query_all.result c.query_all.ensures.ok c.query_all.ensures.err c.query_all.ensures.survives

pub returns-clause-within : goal.returns-clause-within
returns-clause-within g c = reads_within _ [] version_select (λ rows. rows.items) (state g.S.Store c.args.conn.now) (state g.S.Store c.query_all.new.self) c.query_all.result c.query_all.ensures.ok c.query_all.ensures.err c.query_all.ensures.survives
