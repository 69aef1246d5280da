use Rattle.std.proofs.Common.{[]}
use Rattle.sqlite.specs.Held.{state}
use Rattle.fuse_store_tables.proofs.Unnamed.{count_makes, count_finds}
use Rattle.fuse_store_tables.proofs.Selects.{reads_within, count_select}
use Rattle.fuse_store_tables.proofs.nodes.select_count.Goals as goal

pub returns-clause-made : goal.returns-clause-made
returns-clause-made g c =
    count_makes (λ rows. rows.items) (state g.S.Store c.args.conn.now) (state g.S.Store c.query_all.new.self) c.query_all.result c.query_all.ensures.ok
    c.query_all.ensures.err c.query_all.ensures.survives

pub returns-clause-found : goal.returns-clause-found
returns-clause-found g c = count_finds (λ rows. rows.items) (state g.S.Store c.args.conn.now) (state g.S.Store c.query_all.new.self) c.query_all.result
    c.query_all.ensures.ok

pub returns-clause-within : goal.returns-clause-within
returns-clause-within g c =
    reads_within _ [] count_select (λ rows. rows.items) (state g.S.Store c.args.conn.now) (state g.S.Store c.query_all.new.self) c.query_all.result c.query_all.ensures.ok
    c.query_all.ensures.err c.query_all.ensures.survives
