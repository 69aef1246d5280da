use Rattle.std.proofs.Common.{[]}
use Rattle.sqlite.specs.Held.{state}
use Rattle.fuse_store_tables.specs.Content.{Holds}
use Rattle.fuse_store_tables.specs.Opening.{IsFirst, IsSecond, IsUnindexed, HoldsFirst, HoldsUnindexed}
use Rattle.fuse_store_tables.proofs.OpenLemmas.{version_looks, version_found, in_order, any_rows}
use Rattle.fuse_store_tables.proofs.Sayings.{says_version}
use Rattle.fuse_store_tables.proofs.Selects.{only_reads, reads_within, version_select}
use Rattle.fuse_store_tables.proofs.meta.select_version.Goals as goal

pub returns-clause-unchanged : goal.returns-clause-unchanged
returns-clause-unchanged g c =
    version_looks IsFirst IsSecond IsUnindexed in_order (λ rows. rows.items) (state g.S.Store c.args.conn.now) (state g.S.Store c.query_all.new.self)
    c.query_all.result c.query_all.ensures.ok
    c.query_all.ensures.err c.query_all.ensures.survives

pub returns-clause-found : goal.returns-clause-found
returns-clause-found g c = version_found IsFirst IsSecond IsUnindexed in_order (λ rows. rows.items) (state g.S.Store c.args.conn.now) (state g.S.Store
    c.query_all.new.self) c.query_all.result
    c.query_all.ensures.ok

pub returns-clause-reports : goal.returns-clause-reports
returns-clause-reports g c = says_version (λ rows. rows.items) (state g.S.Store c.args.conn.now) (state g.S.Store c.query_all.new.self) c.query_all.result
    c.query_all.ensures.ok

pub returns-clause-laid : goal.returns-clause-laid
returns-clause-laid g c =
    version_looks HoldsFirst Holds HoldsUnindexed any_rows (λ rows. rows.items) (state g.S.Store c.args.conn.now)
    (state g.S.Store c.query_all.new.self) c.query_all.result c.query_all.ensures.ok c.query_all.ensures.err c.query_all.ensures.survives

pub returns-clause-shows : goal.returns-clause-shows
returns-clause-shows g c =
    version_found HoldsFirst Holds HoldsUnindexed any_rows (λ rows. rows.items) (state g.S.Store c.args.conn.now)
    (state g.S.Store c.query_all.new.self) c.query_all.result c.query_all.ensures.ok

pub returns-clause-reads : goal.returns-clause-reads
returns-clause-reads g c = only_reads _ [] version_select (λ rows. rows.items) (state g.S.Store c.args.conn.now) (state g.S.Store c.query_all.new.self)
    c.query_all.result c.query_all.ensures.ok c.query_all.ensures.err c.query_all.ensures.survives

pub returns-clause-within : goal.returns-clause-within
returns-clause-within g c = reads_within _ [] version_select (λ rows. rows.items) (state g.S.Store c.args.conn.now) (state g.S.Store c.query_all.new.self)
    c.query_all.result c.query_all.ensures.ok c.query_all.ensures.err c.query_all.ensures.survives
