use Rattle.std.proofs.Common.{refl, ◌∙◌}
use Rattle.sqlite.specs.Held.{state}
use Rattle.fuse_store_tables.specs.declared.copied.Copied.TheVariants.{Lots}
use Rattle.fuse_store_tables.specs.declared.version.Layout.TheVariants.{Third}
use Rattle.fuse_store_tables.specs.inner.Copies.{Filled, no_rows, handles_copied, lots_copied}
use Rattle.fuse_store_tables.proofs.Filling.{fills}
use Rattle.fuse_store_tables.proofs.Joining.{then_as}
use Rattle.fuse_store_tables.proofs.everyday.copy_lots.Goals as goal

pub returns : goal.returns
returns g c =
    then_as (Filled c.args.copies.now (λ _. no_rows Third)) (Filled c.args.copies.now handles_copied) (Filled c.args.copies.now lots_copied) (state g.S.Store c.args.conn.now)
    (state g.S.Store c.copy_handles.new.conn) (state g.S.Store c.insert_all.new.conn) _ c.insert_all.result c.in_ok-copy_handles.ensures
    (fills Lots c.args.copies.now c.as_slice.result.now handles_copied (λ k is. c.as_slice.ensures.value ∙ is.lots) (λ k. refl)
    (state g.S.Store c.copy_handles.new.conn) (state g.S.Store c.insert_all.new.conn) c.insert_all.result c.insert_all.ensures)
