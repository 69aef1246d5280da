use Rattle.std.proofs.Common.{[]}
use Rattle.sqlite.specs.Held.{state}
use Rattle.fuse_store_tables.specs.Content.{Holds}
use Rattle.fuse_store_tables.specs.Opening.{HoldsFirst, HoldsUnindexed}
use Rattle.fuse_store_tables.proofs.OpenLemmas.{meta_looks, meta_found, any_rows}
use Rattle.fuse_store_tables.proofs.Sayings.{says_meta}
use Rattle.fuse_store_tables.proofs.Selects.{only_reads, reads_within, meta_select}
use Rattle.fuse_store_tables.proofs.meta.select_meta.Goals as goal

pub returns-clause-laid : goal.returns-clause-laid
returns-clause-laid g c =
    meta_looks HoldsFirst Holds HoldsUnindexed any_rows (λ rows. rows.items) (state g.S.Store c.args.conn.now)
    (state g.S.Store c.query_all.new.self) c.query_all.result c.query_all.ensures.ok c.query_all.ensures.err c.query_all.ensures.survives

pub returns-clause-shows : goal.returns-clause-shows
returns-clause-shows g c =
    meta_found HoldsFirst Holds HoldsUnindexed any_rows (λ rows. rows.items) (state g.S.Store c.args.conn.now)
    (state g.S.Store c.query_all.new.self) c.query_all.result c.query_all.ensures.ok

pub returns-clause-tells : goal.returns-clause-tells
returns-clause-tells g c = says_meta (λ rows. rows.items) (state g.S.Store c.args.conn.now) (state g.S.Store c.query_all.new.self) c.query_all.result
    c.query_all.ensures.ok

pub returns-clause-reads : goal.returns-clause-reads
returns-clause-reads g c = only_reads _ [] meta_select (λ rows. rows.items) (state g.S.Store c.args.conn.now) (state g.S.Store c.query_all.new.self)
    c.query_all.result c.query_all.ensures.ok c.query_all.ensures.err c.query_all.ensures.survives

pub returns-clause-within : goal.returns-clause-within
returns-clause-within g c = reads_within _ [] meta_select (λ rows. rows.items) (state g.S.Store c.args.conn.now) (state g.S.Store c.query_all.new.self)
    c.query_all.result c.query_all.ensures.ok c.query_all.ensures.err c.query_all.ensures.survives
