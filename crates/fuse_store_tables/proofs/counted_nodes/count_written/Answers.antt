use Rattle.std.proofs.Common.{◌≡◌, [], ◌∷◌, filter, ◌∙◌}
use Rattle.std.specs.Prelude.{⊤}
use Rattle.sqlite.specs.Held.{state}
use Rattle.fuse_store_tables.specs.Counted.{counted_to}
use Rattle.fuse_store_tables.specs.Migrating.{is_block_of}
use Rattle.fuse_store_tables.specs.inner.Columns.{shown_number}
use Rattle.fuse_store_tables.proofs.SecondReads.{looks_fail, looks_refused, counted_row}
use Rattle.fuse_store_tables.proofs.counted_nodes.count_written.Goals as goal

pub returns-in_err-rows-clause-looks : goal.returns-in_err-rows-clause-looks
returns-in_err-rows-clause-looks g c =
    looks_fail (λ _. ⊤) (λ k rows. rows.items ≡ shown_number (counted_to (filter (is_block_of c.args.node) k.blocks)) ∷ []) _ (state g.S.Store c.args.conn.now)
    (state g.S.Store c.select_written.new.conn) _ c.from_residual.result c.from_residual.ensures.1 c.in_err-rows.ensures

pub returns-clause-looks : goal.returns-clause-looks
returns-clause-looks g c =
    counted_row (λ k. counted_to (filter (is_block_of c.args.node) k.blocks)) (λ rows. rows.items) (state g.S.Store c.args.conn.now) (state g.S.Store c.select_written.new.conn)
    c.in_ok-rows.rows c.as_slice.result.now c.as_slice.ensures.value c.the_number.result c.the_number.ensures.value c.the_number.ensures.fault
    c.the_number.ensures.plain c.in_ok-rows.ensures
