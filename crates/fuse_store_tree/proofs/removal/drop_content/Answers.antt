use Rattle.std.proofs.Common.{[], Err, Result}
use Rattle.sqlite.specs.Held.{state}
use Rattle.fuse_keeper.specs.declared.fault.StoreFault.{StoreFault}
use Rattle.fuse_store_tables.specs.inner.Following.{stays_then}
use Rattle.fuse_store_tree.proofs.Cuts.{blocks_cut, cut_known}
use Rattle.fuse_store_tree.proofs.GoneSteps.{off_gives, gives_cut}
use Rattle.fuse_store_tree.proofs.Sure.{sure_sound}
use Rattle.fuse_store_tree.proofs.Turning.{clean_file}
use Rattle.fuse_store_tree.proofs.removal.drop_content.Goals as goal

pub returns-in-Ok-delete_blocks_from-clause-cut : goal.returns-in-Ok-delete_blocks_from-clause-cut
returns-in-Ok-delete_blocks_from-clause-cut g c file =
    cut_known file c.args.node 0 (state g.S.Store c.args.conn.now) (state g.S.Store c.delete_blocks_from.new.conn)
    (blocks_cut (clean_file file) c.args.gone.now c.take_all.new.gone (state g.S.Store c.args.conn.now) (state g.S.Store c.take_all.new.conn)
    (state g.S.Store c.delete_blocks_from.new.conn) _ c.args.node 0 (c.in-Ok.ensures.taken file) c.in-Ok-delete_blocks_from.ensures.made)

pub returns-in-Ok-delete_blocks_from-clause-gone : goal.returns-in-Ok-delete_blocks_from-clause-gone
returns-in-Ok-delete_blocks_from-clause-gone g c file =
    gives_cut _ file c.args.gone.now c.take_all.new.gone (state g.S.Store c.args.conn.now) (state g.S.Store c.take_all.new.conn)
    (state g.S.Store c.delete_blocks_from.new.conn) _ c.args.node 0
    (off_gives _ file _ c.args.gone.now c.take_all.new.gone (state g.S.Store c.args.conn.now) (state g.S.Store c.take_all.new.conn) (c.in-Ok.ensures.taken file))
    c.in-Ok-delete_blocks_from.ensures.made

pub returns-in-Err-clause-fails : goal.returns-in-Err-clause-fails
returns-in-Err-clause-fails g c = c.in-Err.ensures.fails

pub returns-in-Err-delete_blocks_from-clause-fails : goal.returns-in-Err-delete_blocks_from-clause-fails
returns-in-Err-delete_blocks_from-clause-fails g c =
    let taken = c.in-Ok.ensures.taken [] in
    stays_then (state g.S.Store c.args.conn.now) (state g.S.Store c.take_all.new.conn) (state g.S.Store c.delete_blocks_from.new.conn) taken.stays taken.within
    c.in-Err-delete_blocks_from.ensures.made.stays

pub returns-in-Err-clause-fault : goal.returns-in-Err-clause-fault
returns-in-Err-clause-fault g c file =
    let failed : Result (Unit {0}) StoreFault = Err c.in-Err.fault in
    sure_sound file (state g.S.Store c.args.conn.now) (state g.S.Store c.take_all.new.conn) failed (λ clean. c.in-Err.ensures.fault clean file)
