use Rattle.std.proofs.Common.{refl, ◌∙◌}
use Rattle.sqlite.specs.Held.{state}
use Rattle.fuse_store_tables.specs.declared.version.Layout.TheVariants.{Third}
use Rattle.fuse_store_tables.specs.inner.Copies.{Filled, no_rows, counters_copied, nodes_copied}
use Rattle.fuse_store_tables.proofs.Filling.{fills_nodes}
use Rattle.fuse_store_tables.proofs.Joining.{then_as}
use Rattle.fuse_store_tables.proofs.everyday.copy_nodes.Goals as goal

pub returns : goal.returns
returns g c =
    then_as (Filled c.args.copies.now (λ _. no_rows Third)) (Filled c.args.copies.now counters_copied) (Filled c.args.copies.now nodes_copied) (state g.S.Store c.args.conn.now)
    (state g.S.Store c.copy_counters.new.conn) (state g.S.Store c.insert_nodes.new.conn) _ c.insert_nodes.result c.in_ok-copy_counters.ensures
    (fills_nodes c.args.copies.now c.as_slice.result.now c.as_slice-2.result.now counters_copied (λ k is. c.as_slice.ensures.value ∙ is.nodes)
    (λ k is. c.as_slice-2.ensures.value ∙ is.added) (λ k. refl) (state g.S.Store c.copy_counters.new.conn) (state g.S.Store c.insert_nodes.new.conn) c.insert_nodes.result
    c.insert_nodes.ensures)
