use Rattle.std.proofs.Common.{◌≡◌, [], map, Ok, Err}
use Rattle.sqlite.specs.Held.{state}
use Rattle.fuse_store_tables.specs.declared.version.Layout.TheVariants.{Second}
use Rattle.fuse_store_tables.specs.inner.Columns.{given_node}
use Rattle.fuse_store_tables.proofs.Queries.{only_reads, reads_within}
use Rattle.fuse_store_tables.proofs.SecondReads.{queried, query_fails}
use Rattle.fuse_store_tables.proofs.CountedRows.{nodes_look, nodes_found, nodes_select}
use Rattle.fuse_store_tables.proofs.counted_nodes.select_nodes.Goals as goal

pub returns : goal.returns
returns g c =
    let a = state g.S.Store c.args.conn.now in
    let b = state g.S.Store c.query_all.new.self in
    let q = c.in_ok-rows.ensures in
    queried (λ e rows. rows.items ≡ map (given_node Second) e.nodes) a b _ (nodes_look (λ rows. rows.items) a b (Ok c.in_ok-rows.rows) q.ok (λ clean. tt) q.survives)
    (only_reads _ [] nodes_select (λ rows. rows.items) a b (Ok c.in_ok-rows.rows) q.ok (λ clean. tt) q.survives)
    (reads_within _ [] nodes_select (λ rows. rows.items) a b (Ok c.in_ok-rows.rows) q.ok (λ clean. tt) q.survives) (nodes_found (λ rows. rows.items) a b (Ok c.in_ok-rows.rows) q.ok)

pub returns-in_err-rows : goal.returns-in_err-rows
returns-in_err-rows g c =
    let a = state g.S.Store c.args.conn.now in
    let b = state g.S.Store c.query_all.new.self in
    let q = c.in_err-rows.ensures in
    query_fails (λ e rows. rows.items ≡ map (given_node Second) e.nodes) a b _ c.from_residual.result c.from_residual.ensures.1
    (nodes_look (λ rows. rows.items) a b (Err _) (λ clean. tt) q.err q.survives) (only_reads _ [] nodes_select (λ rows. rows.items) a b (Err _) (λ clean. tt) q.err q.survives)
    (reads_within _ [] nodes_select (λ rows. rows.items) a b (Err _) (λ clean. tt) q.err q.survives)
