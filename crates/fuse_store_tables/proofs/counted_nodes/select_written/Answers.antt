use Rattle.std.proofs.Common.{◌≡◌, [], ◌∷◌, filter, Ok, Err}
use Rattle.sqlite.specs.Held.{state}
use Rattle.fuse_store_tables.specs.Counted.{counted_to}
use Rattle.fuse_store_tables.specs.Migrating.{is_block_of}
use Rattle.fuse_store_tables.specs.inner.Columns.{shown_number}
use Rattle.fuse_store_tables.proofs.Queries.{only_reads, reads_within}
use Rattle.fuse_store_tables.proofs.SecondReads.{queried, query_fails}
use Rattle.fuse_store_tables.proofs.CountedRows.{count_looks, count_found, count_select}
use Rattle.fuse_store_tables.proofs.counted_nodes.select_written.Goals as goal

pub returns : goal.returns
returns g c =
    let a = state g.S.Store c.args.conn.now in
    let b = state g.S.Store c.query_all.new.self in
    let ok = rw c.number-values.ensures at c.in_ok-rows.ensures.ok in
    let survives = rw c.number-values.ensures at c.in_ok-rows.ensures.survives in
    queried (λ e rows. rows.items ≡ shown_number (counted_to (filter (is_block_of c.args.node) e.blocks)) ∷ []) a b _
    (count_looks c.args.node (λ rows. rows.items) a b (Ok c.in_ok-rows.rows) ok (λ clean. tt) survives) (only_reads _ _ count_select (λ rows. rows.items) a b (Ok c.in_ok-rows.rows) ok (λ clean. tt) survives)
    (reads_within _ _ count_select (λ rows. rows.items) a b (Ok c.in_ok-rows.rows) ok (λ clean. tt) survives) (count_found c.args.node (λ rows. rows.items) a b (Ok c.in_ok-rows.rows) ok)

pub returns-in_err-rows : goal.returns-in_err-rows
returns-in_err-rows g c =
    let a = state g.S.Store c.args.conn.now in
    let b = state g.S.Store c.query_all.new.self in
    let err = rw c.number-values.ensures at c.in_err-rows.ensures.err in
    let survives = rw c.number-values.ensures at c.in_err-rows.ensures.survives in
    query_fails (λ e rows. rows.items ≡ shown_number (counted_to (filter (is_block_of c.args.node) e.blocks)) ∷ []) a b _ c.from_residual.result
    c.from_residual.ensures.1 (count_looks c.args.node (λ rows. rows.items) a b (Err _) (λ clean. tt) err survives)
    (only_reads _ _ count_select (λ rows. rows.items) a b (Err _) (λ clean. tt) err survives)
    (reads_within _ _ count_select (λ rows. rows.items) a b (Err _) (λ clean. tt) err survives)
