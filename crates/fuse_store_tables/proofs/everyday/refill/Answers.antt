use Rattle.sqlite.specs.Held.{state}
use Rattle.fuse_store_tables.specs.declared.version.Layout.TheVariants.{Second, Third}
use Rattle.fuse_store_tables.specs.inner.Copies.{IsCopyOf, Filled, no_rows, all_copied}
use Rattle.fuse_store_tables.specs.inner.Steps.{HoldsIn}
use Rattle.fuse_store_tables.proofs.Either.{narrowed_if}
use Rattle.fuse_store_tables.proofs.Filling.{remade}
use Rattle.fuse_store_tables.proofs.Joining.{then_as}
use Rattle.fuse_store_tables.proofs.everyday.refill.Goals as goal

pub returns : goal.returns
returns g c =
    let s = c.args.copies.now in
    let a = state g.S.Store c.args.conn.now in
    let b = state g.S.Store c.remake.new.conn in
    let d = state g.S.Store c.copy_all.new.conn in
    narrowed_if (λ k e. IsCopyOf s k × HoldsIn Second k e) (Filled s all_copied) (λ k. HoldsIn Third (all_copied k)) a d c.copy_all.result
    (then_as (λ k e. IsCopyOf s k × HoldsIn Second k e) (Filled s (λ _. no_rows Third)) (Filled s all_copied) a b d _ c.copy_all.result
    (remade s a b _ c.in_ok-remake.ensures) c.copy_all.ensures)
    (λ clean k at on. record { is_open = on.is_open; in_transaction = on.in_transaction; holds = on.holds.1 })
