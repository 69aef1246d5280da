use Rattle.std.proofs.Common.{[]}
use Rattle.sqlite.specs.Held.{state}
use Rattle.fuse_data.specs.State.{state_in}
use Rattle.fuse_store_tree.specs.Viewing.{view_in}
use Rattle.fuse_store_tree.specs.inner.Relisting.{IsAny}
use Rattle.fuse_store_tree.specs.inner.Laws.{looked_still}
use Rattle.fuse_store_tree.proofs.Asides.{kept_itself}
use Rattle.fuse_store_tree.proofs.MoveFiles.{adds_still}
use Rattle.fuse_store_tree.proofs.MoveSteps.{looks_moving, looks_first, looks_fault, fails_after}
use Rattle.fuse_store_tree.proofs.windows.move_window.Goals as goal

pub returns-in-Err-clause-adds : goal.returns-in-Err-clause-adds
returns-in-Err-clause-adds g c = adds_still (state_in g.D.Disk c.args.contents.now.file) c.args.contents.now.written.items

pub returns-in-Err-clause-fault : goal.returns-in-Err-clause-fault
returns-in-Err-clause-fault g c clean read k at sound = c.in-Err.ensures.fault clean _ k at sound

pub returns-clause-moved : goal.returns-clause-moved
returns-clause-moved g c =
    looks_first c.move_runs.result (view_in g.D.Disk c.args.contents.now) (view_in g.D.Disk c.move_runs.new.contents) (state g.S.Store c.args.conn.now)
    (state g.S.Store c.find_stored.new.conn) (state g.S.Store c.move_runs.new.conn) c.in-Ok.ensures.looks c.move_runs.ensures.moved

pub returns-clause-fails : goal.returns-clause-fails
returns-clause-fails g c =
    fails_after c.move_runs.result (state g.S.Store c.args.conn.now) (state g.S.Store c.find_stored.new.conn) (state g.S.Store c.move_runs.new.conn) c.in-Ok.ensures.looks
    c.move_runs.ensures.fails

pub returns-clause-fault : goal.returns-clause-fault
returns-clause-fault g c =
    looks_fault c.move_runs.result (view_in g.D.Disk c.args.contents.now).bytes (state_in g.D.Disk c.move_runs.new.contents.file).is_clean (state g.S.Store c.args.conn.now)
    (state g.S.Store c.find_stored.new.conn) (state g.S.Store c.move_runs.new.conn) c.in-Ok.ensures.looks c.move_runs.ensures.fails c.move_runs.ensures.fault
