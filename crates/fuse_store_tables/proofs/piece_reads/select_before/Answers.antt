use Rattle.sqlite.specs.Held.{state}
use Rattle.fuse_store_tables.proofs.LastPieces.{look_makes, look_finds}
use Rattle.fuse_store_tables.proofs.piece_reads.select_before.Goals as goal

pub returns-clause-looks : goal.returns-clause-looks
returns-clause-looks g c =
    look_makes (λ rows. rows.items) c.args.node c.args.block (state g.S.Store c.args.conn.now) (state g.S.Store c.query_all.new.self) c.query_all.result
    (rw c.pair-values.ensures at c.query_all.ensures.ok) (rw c.pair-values.ensures at c.query_all.ensures.err)
    (rw c.pair-values.ensures at c.query_all.ensures.survives)

pub returns-clause-found : goal.returns-clause-found
returns-clause-found g c =
    look_finds (λ rows. rows.items) c.args.node c.args.block (state g.S.Store c.args.conn.now) (state g.S.Store c.query_all.new.self) c.query_all.result
    (rw c.pair-values.ensures at c.query_all.ensures.ok)
