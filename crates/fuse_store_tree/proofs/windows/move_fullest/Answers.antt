use Rattle.sqlite.specs.Held.{state}
use Rattle.fuse_data.specs.State.{state_in}
use Rattle.fuse_store_tree.specs.Viewing.{view_in}
use Rattle.fuse_store_tree.proofs.MoveSteps.{looks_first, looks_fault, fails_after}
use Rattle.fuse_store_tree.proofs.windows.move_fullest.Goals as goal

pub returns-clause-moved : goal.returns-clause-moved
returns-clause-moved g c =
    looks_first c.move_windows.result (view_in g.D.Disk c.args.contents.now) (view_in g.D.Disk c.move_windows.new.contents) (state g.S.Store c.args.conn.now)
    (state g.S.Store c.read_windows.new.conn) (state g.S.Store c.move_windows.new.conn) c.in-Ok.ensures.looks c.move_windows.ensures.moved

pub returns-clause-fails : goal.returns-clause-fails
returns-clause-fails g c =
    fails_after c.move_windows.result (state g.S.Store c.args.conn.now) (state g.S.Store c.read_windows.new.conn) (state g.S.Store c.move_windows.new.conn)
    c.in-Ok.ensures.looks c.move_windows.ensures.fails

pub returns-clause-fault : goal.returns-clause-fault
returns-clause-fault g c =
    looks_fault c.move_windows.result (view_in g.D.Disk c.args.contents.now).bytes (state_in g.D.Disk c.move_windows.new.contents.file).is_clean
    (state g.S.Store c.args.conn.now) (state g.S.Store c.read_windows.new.conn) (state g.S.Store c.move_windows.new.conn) c.in-Ok.ensures.looks
    c.move_windows.ensures.fails c.move_windows.ensures.fault
