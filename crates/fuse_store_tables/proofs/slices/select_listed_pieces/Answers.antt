use Rattle.sqlite.specs.Held.{state}
use Rattle.fuse_store_tables.proofs.ListedPieces.{peek_serves, peek_finds, selects}
use Rattle.fuse_store_tables.proofs.Resting.{peeks_open}
use Rattle.fuse_store_tables.proofs.Selects.{only_reads}
use Rattle.fuse_store_tables.proofs.slices.select_listed_pieces.Goals as goal

pub returns-clause-rests : goal.returns-clause-rests
returns-clause-rests g c =
    peek_serves (λ rows. rows.items) c.args.slot c.args.limit (state g.S.Store c.args.conn.now) (state g.S.Store c.query_all.new.self) c.query_all.result
    (rw c.pair-values.ensures at c.query_all.ensures.ok) (rw c.pair-values.ensures at c.query_all.ensures.err)
    (rw c.pair-values.ensures at c.query_all.ensures.survives)

pub returns-clause-open : goal.returns-clause-open
returns-clause-open g c =
    peeks_open _ _ (λ rows. rows.items) (state g.S.Store c.args.conn.now) (state g.S.Store c.query_all.new.self) c.query_all.result c.query_all.ensures.ok
    c.query_all.ensures.err

pub returns-clause-reads : goal.returns-clause-reads
returns-clause-reads g c =
    only_reads _ _ selects (λ rows. rows.items) (state g.S.Store c.args.conn.now) (state g.S.Store c.query_all.new.self) c.query_all.result
    c.query_all.ensures.ok c.query_all.ensures.err c.query_all.ensures.survives

pub returns-clause-found : goal.returns-clause-found
returns-clause-found g c =
    peek_finds (λ rows. rows.items) c.args.slot c.args.limit (state g.S.Store c.args.conn.now) (state g.S.Store c.query_all.new.self) c.query_all.result
    (rw c.pair-values.ensures at c.query_all.ensures.ok)
