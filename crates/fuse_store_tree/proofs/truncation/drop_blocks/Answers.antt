use Rattle.std.proofs.Common.{Err, Result}
use Rattle.sqlite.specs.Held.{state}
use Rattle.fuse_keeper.specs.declared.fault.StoreFault.{StoreFault}
use Rattle.fuse_store_tables.specs.inner.Following.{stays_then}
use Rattle.fuse_store_tree.proofs.Cuts.{blocks_cut}
use Rattle.fuse_store_tree.proofs.GoneSteps.{off_gives, gives_cut}
use Rattle.fuse_store_tree.proofs.Sure.{outside_either, sure_sound}
use Rattle.fuse_store_tree.proofs.truncation.drop_blocks.Goals as goal

pub returns-in-Ok-delete_blocks_from-clause-cut : goal.returns-in-Ok-delete_blocks_from-clause-cut
returns-in-Ok-delete_blocks_from-clause-cut g c =
    blocks_cut (g.C.Contents.file c.take_from.new.contents) c.args.gone.now c.take_from.new.gone (state g.S.Store c.args.conn.now) (state g.S.Store c.take_from.new.conn)
    (state g.S.Store c.delete_blocks_from.new.conn) _ c.args.node c.args.from c.in-Ok.ensures.taken c.in-Ok-delete_blocks_from.ensures.made

pub returns-in-Ok-delete_blocks_from-clause-gone : goal.returns-in-Ok-delete_blocks_from-clause-gone
returns-in-Ok-delete_blocks_from-clause-gone g c =
    let f = g.C.Contents.file c.take_from.new.contents in
    gives_cut f.is_clean f.bytes c.args.gone.now c.take_from.new.gone (state g.S.Store c.args.conn.now) (state g.S.Store c.take_from.new.conn)
    (state g.S.Store c.delete_blocks_from.new.conn) _ c.args.node c.args.from
    (off_gives f.is_clean f.bytes _ c.args.gone.now c.take_from.new.gone (state g.S.Store c.args.conn.now) (state g.S.Store c.take_from.new.conn)
    c.in-Ok.ensures.taken) c.in-Ok-delete_blocks_from.ensures.made

pub returns-in-Err-clause-fails : goal.returns-in-Err-clause-fails
returns-in-Err-clause-fails g c = c.in-Err.ensures.fails

pub returns-in-Err-delete_blocks_from-clause-fails : goal.returns-in-Err-delete_blocks_from-clause-fails
returns-in-Err-delete_blocks_from-clause-fails g c =
    let taken = c.in-Ok.ensures.taken in
    stays_then (state g.S.Store c.args.conn.now) (state g.S.Store c.take_from.new.conn) (state g.S.Store c.delete_blocks_from.new.conn) taken.stays taken.within
    c.in-Err-delete_blocks_from.ensures.made.stays

pub returns-in-Err-clause-fault : goal.returns-in-Err-clause-fault
returns-in-Err-clause-fault g c read =
    let failed : Result (Unit {0}) StoreFault = Err c.in-Err.fault in
    sure_sound (g.C.Contents.file c.take_from.new.contents).bytes (state g.S.Store c.args.conn.now) (state g.S.Store c.take_from.new.conn) failed
    (λ clean. c.in-Err.ensures.fault clean read)

pub returns-in-Err-delete_blocks_from-clause-fault : goal.returns-in-Err-delete_blocks_from-clause-fault
returns-in-Err-delete_blocks_from-clause-fault g c read clean at = rw c.from.ensures (outside_either _ _)
