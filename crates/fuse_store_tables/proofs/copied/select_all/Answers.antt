use Rattle.std.proofs.Common.{◌≡◌, [], map, Ok, Err}
use Rattle.sqlite.specs.Held.{state}
use Rattle.fuse_store_tables.specs.inner.Copies.{copy_row, rows_in}
use Rattle.fuse_store_tables.proofs.Queries.{only_reads, reads_within}
use Rattle.fuse_store_tables.proofs.SecondReads.{queried, query_fails}
use Rattle.fuse_store_tables.proofs.WholeRows.{whole_looks, whole_found, whole_select}
use Rattle.fuse_store_tables.proofs.copied.select_all.Goals as goal

pub returns : goal.returns
returns g c =
    let k = c.args.table in
    let a = state g.S.Store c.args.conn.now in
    let b = state g.S.Store c.query_all.new.self in
    let ok = rw c.whole_text-text.ensures at c.in_ok-rows.ensures.ok in
    let survives = rw c.whole_text-text.ensures at c.in_ok-rows.ensures.survives in
    queried (λ e rows. rows.items ≡ map (copy_row k) (rows_in k e)) a b _ (whole_looks k (λ rows. rows.items) a b (Ok c.in_ok-rows.rows) ok (λ clean. tt) survives)
    (only_reads _ [] (whole_select k) (λ rows. rows.items) a b (Ok c.in_ok-rows.rows) ok (λ clean. tt) survives)
    (reads_within _ [] (whole_select k) (λ rows. rows.items) a b (Ok c.in_ok-rows.rows) ok (λ clean. tt) survives) (whole_found k (λ rows. rows.items) a b (Ok c.in_ok-rows.rows) ok)

pub returns-in_err-rows : goal.returns-in_err-rows
returns-in_err-rows g c =
    let k = c.args.table in
    let a = state g.S.Store c.args.conn.now in
    let b = state g.S.Store c.query_all.new.self in
    let err = rw c.whole_text-text.ensures at c.in_err-rows.ensures.err in
    let survives = rw c.whole_text-text.ensures at c.in_err-rows.ensures.survives in
    query_fails (λ e rows. rows.items ≡ map (copy_row k) (rows_in k e)) a b _ c.from_residual.result c.from_residual.ensures.1
    (whole_looks k (λ rows. rows.items) a b (Err _) (λ clean. tt) err survives) (only_reads _ [] (whole_select k) (λ rows. rows.items) a b (Err _) (λ clean. tt) err survives)
    (reads_within _ [] (whole_select k) (λ rows. rows.items) a b (Err _) (λ clean. tt) err survives)
