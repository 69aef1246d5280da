use Rattle.sqlite.specs.Held.{state}
use Rattle.fuse_store_tables.proofs.Looks.{looked, failed}
use Rattle.fuse_store_tables.proofs.BlockRanges.{select_makes, select_shows}
use Rattle.fuse_store_tables.proofs.block_ranges.select_blocks.Goals as goal

pub returns-clause-looks : goal.returns-clause-looks
returns-clause-looks g c =
    looked (state g.S.Store c.args.conn.now) (state g.S.Store c.query_all.new.self) c.query_all.result
    (select_makes (λ rows. rows.items) c.args.node c.args.from c.args.to c.args.limit (state g.S.Store c.args.conn.now) (state g.S.Store c.query_all.new.self)
    c.query_all.result
    (rw c.slice_values-values.ensures at c.query_all.ensures.ok) (rw c.slice_values-values.ensures at c.query_all.ensures.err)
    (rw c.slice_values-values.ensures at c.query_all.ensures.survives))

pub returns-clause-fails : goal.returns-clause-fails
returns-clause-fails g c =
    failed (state g.S.Store c.args.conn.now) (state g.S.Store c.query_all.new.self) c.query_all.result
    (select_makes (λ rows. rows.items) c.args.node c.args.from c.args.to c.args.limit (state g.S.Store c.args.conn.now) (state g.S.Store c.query_all.new.self)
    c.query_all.result
    (rw c.slice_values-values.ensures at c.query_all.ensures.ok) (rw c.slice_values-values.ensures at c.query_all.ensures.err)
    (rw c.slice_values-values.ensures at c.query_all.ensures.survives))

pub returns-clause-found : goal.returns-clause-found
returns-clause-found g c =
    select_shows (λ rows. rows.items) c.args.node c.args.from c.args.to c.args.limit (state g.S.Store c.args.conn.now) (state g.S.Store c.query_all.new.self)
    c.query_all.result (rw c.slice_values-values.ensures at c.query_all.ensures.ok)
