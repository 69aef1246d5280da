use Rattle.sqlite.specs.Held.{state}
use Rattle.fuse_store_tables.proofs.Looks.{looked, failed}
use Rattle.fuse_store_tables.proofs.HandleRows.{of_makes, of_shows}
use Rattle.fuse_store_tables.proofs.handles.select_handles_of.Goals as goal

pub returns-clause-looks : goal.returns-clause-looks
returns-clause-looks g c =
    looked (state g.S.Store c.args.conn.now) (state g.S.Store c.query_all.new.self) c.query_all.result (of_makes (λ rows. rows.items) c.args.node c.args.limit
    (state g.S.Store c.args.conn.now) (state g.S.Store c.query_all.new.self) c.query_all.result (rw c.pair-values.ensures at c.query_all.ensures.ok)
    (rw c.pair-values.ensures at c.query_all.ensures.err) (rw c.pair-values.ensures at c.query_all.ensures.survives))

pub returns-clause-fails : goal.returns-clause-fails
returns-clause-fails g c =
    failed (state g.S.Store c.args.conn.now) (state g.S.Store c.query_all.new.self) c.query_all.result (of_makes (λ rows. rows.items) c.args.node c.args.limit
    (state g.S.Store c.args.conn.now) (state g.S.Store c.query_all.new.self) c.query_all.result (rw c.pair-values.ensures at c.query_all.ensures.ok)
    (rw c.pair-values.ensures at c.query_all.ensures.err) (rw c.pair-values.ensures at c.query_all.ensures.survives))

pub returns-clause-found : goal.returns-clause-found
returns-clause-found g c =
    of_shows (λ rows. rows.items) c.args.node c.args.limit (state g.S.Store c.args.conn.now) (state g.S.Store c.query_all.new.self) c.query_all.result
    (rw c.pair-values.ensures at c.query_all.ensures.ok)
