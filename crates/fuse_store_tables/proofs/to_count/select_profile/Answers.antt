use Rattle.std.proofs.Common.{[]}
use Rattle.sqlite.specs.Held.{state}
use Rattle.fuse_store_tables.proofs.ProfileRows.{profile_found, profile_select, profile_was}
use Rattle.fuse_store_tables.proofs.Resting.{peeks_open}
use Rattle.fuse_store_tables.proofs.Selects.{only_reads}
use Rattle.fuse_store_tables.proofs.to_count.select_profile.Goals as goal

pub returns-clause-found : goal.returns-clause-found
returns-clause-found g c =
    profile_found (λ rows. rows.items) (state g.S.Store c.args.conn.now) (state g.S.Store c.query_all.new.self) c.query_all.result c.query_all.ensures.ok

pub returns-clause-was : goal.returns-clause-was
returns-clause-was g c =
    profile_was (λ rows. rows.items) (state g.S.Store c.args.conn.now) (state g.S.Store c.query_all.new.self) c.query_all.result c.query_all.ensures.ok

pub returns-clause-open : goal.returns-clause-open
returns-clause-open g c =
    peeks_open _ _ (λ rows. rows.items) (state g.S.Store c.args.conn.now) (state g.S.Store c.query_all.new.self) c.query_all.result c.query_all.ensures.ok
    c.query_all.ensures.err

pub returns-clause-reads : goal.returns-clause-reads
returns-clause-reads g c =
    only_reads _ [] profile_select (λ rows. rows.items) (state g.S.Store c.args.conn.now) (state g.S.Store c.query_all.new.self) c.query_all.result
    c.query_all.ensures.ok c.query_all.ensures.err c.query_all.ensures.survives
