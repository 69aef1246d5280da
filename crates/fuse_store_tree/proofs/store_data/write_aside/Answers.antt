use Rattle.std.proofs.Common.{◌≡◌, sym, subst}
use Rattle.fuse_data.specs.Space.{IsFreeBlock}
use Rattle.fuse_data.specs.State.{state_of}
use Rattle.fuse_store_tables.specs.Faults.{IsOutside}
use Rattle.fuse_store_tree.specs.inner.Preparing.{IsAside}
use Rattle.fuse_store_tree.proofs.Asides.{fresh, aside_failed, aside_lost, aside_more, is_aside, never_empty}
use Rattle.fuse_store_tree.proofs.DataWrites.{write_outside}
use Rattle.fuse_store_tree.proofs.store_data.write_aside.Goals as goal

pub returns-in-Err-clause-aside : goal.returns-in-Err-clause-aside
returns-in-Err-clause-aside g c =
    aside_failed (state_of g.D.Disk c.args.file.now) (state_of g.D.Disk c.write.new.self) c.args.written.now.items c.write.ensures.kept c.write.ensures.crash
    (λ b is. subst (λ gaps. IsFreeBlock gaps b) c.in-Err.ensures.failed is) c.write.ensures.clean c.write.ensures.usable

pub returns-in-Err-clause-fault : goal.returns-in-Err-clause-fault
returns-in-Err-clause-fault g c = subst IsOutside (sym c.store_fault.ensures.is) (write_outside _ _ _ c.in-Err.fault c.requires c.in-Err.ensures.cause)

pub returns-in_err-push-clause-aside : goal.returns-in_err-push-clause-aside
returns-in_err-push-clause-aside g c =
    aside_lost (state_of g.D.Disk c.args.file.now) (state_of g.D.Disk c.write.new.self) c.args.written.now.items c.push.new.self.items c.in-Ok.extent
    c.in_err-push.ensures.items c.write.ensures.kept c.write.ensures.crash c.in-Ok.ensures.taken c.write.ensures.clean c.write.ensures.usable

pub returns-clause-aside : goal.returns-clause-aside
returns-clause-aside g c =
    aside_more (state_of g.D.Disk c.args.file.now) (state_of g.D.Disk c.write.new.self) c.args.written.now.items c.push.new.self.items c.in-Ok.extent
    c.in_ok-push.ensures.items c.write.ensures.kept c.write.ensures.crash c.in-Ok.ensures.free c.in-Ok.ensures.taken c.write.ensures.clean c.write.ensures.usable

pub returns-clause-written : goal.returns-clause-written
returns-clause-written g c =
    subst (λ us. IsAside (state_of g.D.Disk c.write.new.self) us c.in-Ok.extent c.args.bytes.now) (sym c.in_ok-push.ensures.items)
    (is_aside (state_of g.D.Disk c.write.new.self) c.args.written.now.items c.in-Ok.extent c.args.bytes.now c.in-Ok.ensures.whole c.in-Ok.ensures.bytes c.in-Ok.ensures.in_use)

pub returns-clause-more : goal.returns-clause-more
returns-clause-more g c = never_empty c.args.written.now.items c.push.new.self.items (fresh c.in-Ok.extent) c.in_ok-push.ensures.items
