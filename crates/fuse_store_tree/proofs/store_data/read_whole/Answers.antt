use Rattle.std.proofs.Common.{◌≡◌, ◌*◌, ◌∙◌, length, sym, subst}
use Rattle.fuse_data.specs.declared.extent.TheConstants.{BLOCK}
use Rattle.fuse_data.specs.Extents.{IsWhole}
use Rattle.fuse_store_tables.specs.Faults.{IsOutside}
use Rattle.fuse_store_tree.proofs.Misreads.{outside}
use Rattle.fuse_store_tree.proofs.store_data.read_whole.Goals as goal

pub returns-in-Err-clause-fault : goal.returns-in-Err-clause-fault
returns-in-Err-clause-fault g c = λ read whole.
    let old = subst (λ file. IsWhole file c.args.extent) c.in-Err.ensures.seen whole in
    let long : length c.as_mut_slice.result.now ≡ c.args.extent.count * BLOCK = c.as_mut_slice.ensures.len ∙ c.in_ok-resize.ensures.len in
    subst IsOutside (sym c.store_fault.ensures.is) (outside _ _ _ c.args.extent _ c.in-Err.fault read old long c.in-Err.ensures.cause)

pub returns-in-Ok-clause-whole : goal.returns-in-Ok-clause-whole
returns-in-Ok-clause-whole g c = λ clean. subst (λ file. IsWhole file c.args.extent) (sym c.in-Ok.ensures.seen) (c.in-Ok.ensures.whole clean)
