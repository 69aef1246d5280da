use Rattle.sqlite.specs.Held.{state}
use Rattle.fuse_rows.specs.declared.rows.Change.TheVariants as changes
use Rattle.fuse_store_tables.specs.Content.{with_node}
use Rattle.fuse_store_tree.specs.inner.Laws.{looked_still}
use Rattle.fuse_store_tree.specs.inner.Writing.{with_change}
use Rattle.fuse_store_tree.proofs.Steps.{made_known}
use Rattle.fuse_store_tree.proofs.Turning.{clean_file, changed_in}
use Rattle.fuse_store_tree.proofs.RowChanges.{node_put}
use Rattle.fuse_store_tree.proofs.updates.put_node.Goals as goal

pub returns-in-Ok-clause-changed : goal.returns-in-Ok-clause-changed
returns-in-Ok-clause-changed g c = λ file.
    let a = state g.S.Store c.args.conn.now in
    let n = c.args.row.now in
    let l = c.layout_of.result in
    changed_in file (with_change (changes.Node n)) a (state g.S.Store c.put_node.new.conn)
    (made_known (clean_file file) (with_node c.counted_in-row.result) (with_change (changes.Node n)) a a (state g.S.Store c.put_node.new.conn) _ (looked_still a) c.in-Ok.ensures
    (λ clean s k inside tells. node_put n l c.counted_in-row.result s file k (c.layout_of.ensures.value k inside.holds) c.counted_in-row.ensures.value
    (record { node = c.counted_in-row.ensures.fits.node; widths = c.law_of_widths.ensures; count = c.counted_in-row.ensures.count }) tells))

pub returns-in-Err-clause-fails : goal.returns-in-Err-clause-fails
returns-in-Err-clause-fails g c = c.in-Err.ensures.stays
