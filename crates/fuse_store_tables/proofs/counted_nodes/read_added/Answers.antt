use Rattle.std.proofs.Common.{◌≡◌, Err}
use Rattle.std.specs.Prelude.{⊤}
use Rattle.sqlite.specs.Held.{state}
use Rattle.fuse_rows.specs.declared.rows.NodeRow.{NodeRow}
use Rattle.fuse_store_tables.specs.declared.version.Layout.TheVariants.{Second}
use Rattle.fuse_store_tables.specs.inner.Columns.{given_node}
use Rattle.fuse_store_tables.proofs.SecondReads.{looks_fail, looks_more}
use Rattle.fuse_store_tables.proofs.counted_nodes.read_added.Goals as goal

pub returns-in_err-written : goal.returns-in_err-written
returns-in_err-written g c =
    let a = state g.S.Store c.args.conn.now in
    let b = state g.S.Store c.count_written.new.conn in
    looks_fail (λ _. (n : NodeRow) × (c.args.row.now ≡ given_node Second n)) _ _ a b _
    c.from_residual-in_err-written.result c.from_residual-in_err-written.ensures.1
    (looks_more (λ _. ⊤) (λ _. (n : NodeRow) × (c.args.row.now ≡ given_node Second n)) _ a b (Err _) (λ k h. tt) c.in_err-written.ensures.looks)
