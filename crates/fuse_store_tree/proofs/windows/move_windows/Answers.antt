use Rattle.std.proofs.Common.{[]}
use Rattle.sqlite.specs.Held.{state}
use Rattle.fuse_data.specs.State.{state_in}
use Rattle.fuse_store_tree.specs.Viewing.{view_in}
use Rattle.fuse_store_tree.specs.inner.Laws.{looked_still}
use Rattle.fuse_store_tree.specs.inner.Relisting.{IsAny}
use Rattle.fuse_store_tree.proofs.Asides.{kept_itself}
use Rattle.fuse_store_tree.proofs.MoveFiles.{adds_still, adds_then}
use Rattle.fuse_store_tree.proofs.MoveSteps.{looks_moving, moving_then, moving_fails, moving_fault}
use Rattle.fuse_store_tree.proofs.windows.move_windows.Goals as goal

pub loop-window-init : goal.loop-window-init
loop-window-init g c =
    let f = view_in g.D.Disk c.args.contents.now in
    let a = state g.S.Store c.args.conn.now in
    record {
      adds = adds_still (state_in g.D.Disk c.args.contents.now.file) c.args.contents.now.written.items;
      moved = looks_moving f f IsAny a a (looked_still a) (kept_itself [] f.bytes);
    }

pub loop-window-preserved : goal.loop-window-preserved
loop-window-preserved g c =
    let was = c.loop-window.invariant in
    let step = c.move_window.ensures in
    record {
      adds = adds_then (state_in g.D.Disk c.args.contents.now.file) (state_in g.D.Disk c.loop-window.contents.file) (state_in g.D.Disk c.move_window.new.contents.file)
          c.args.contents.now.written.items c.loop-window.contents.written.items c.move_window.new.contents.written.items was.adds step.adds;
      moved = moving_then (view_in g.D.Disk c.args.contents.now) (view_in g.D.Disk c.loop-window.contents) (view_in g.D.Disk c.move_window.new.contents) IsAny
          (state g.S.Store c.args.conn.now) (state g.S.Store c.loop-window.conn) (state g.S.Store c.move_window.new.conn) (λ clean. step.adds.clean clean) was.adds.view step.adds.view
          was.moved c.in-Ok-true.ensures.moved;
    }

pub returns-in-Ok-false-clause-adds : goal.returns-in-Ok-false-clause-adds
returns-in-Ok-false-clause-adds g c =
    adds_then (state_in g.D.Disk c.args.contents.now.file) (state_in g.D.Disk c.loop-window.contents.file) (state_in g.D.Disk c.move_window.new.contents.file)
    c.args.contents.now.written.items c.loop-window.contents.written.items c.move_window.new.contents.written.items c.loop-window.invariant.adds c.move_window.ensures.adds

pub returns-in-Ok-false-clause-moved : goal.returns-in-Ok-false-clause-moved
returns-in-Ok-false-clause-moved g c =
    let was = c.loop-window.invariant in
    let step = c.move_window.ensures in
    moving_then (view_in g.D.Disk c.args.contents.now) (view_in g.D.Disk c.loop-window.contents) (view_in g.D.Disk c.move_window.new.contents) IsAny
    (state g.S.Store c.args.conn.now) (state g.S.Store c.loop-window.conn) (state g.S.Store c.move_window.new.conn) (λ clean. step.adds.clean clean) was.adds.view step.adds.view
    was.moved c.in-Ok-false.ensures.moved

pub returns-in-Err-clause-adds : goal.returns-in-Err-clause-adds
returns-in-Err-clause-adds g c =
    adds_then (state_in g.D.Disk c.args.contents.now.file) (state_in g.D.Disk c.loop-window.contents.file) (state_in g.D.Disk c.move_window.new.contents.file)
    c.args.contents.now.written.items c.loop-window.contents.written.items c.move_window.new.contents.written.items c.loop-window.invariant.adds c.move_window.ensures.adds

pub returns-in-Err-clause-fails : goal.returns-in-Err-clause-fails
returns-in-Err-clause-fails g c =
    moving_fails (view_in g.D.Disk c.args.contents.now) (view_in g.D.Disk c.loop-window.contents) IsAny (state g.S.Store c.args.conn.now) (state g.S.Store c.loop-window.conn)
    (state g.S.Store c.move_window.new.conn) c.loop-window.invariant.moved c.in-Err.ensures.fails

pub returns-in-Err-clause-fault : goal.returns-in-Err-clause-fault
returns-in-Err-clause-fault g c clean read k at sound =
    moving_fault (view_in g.D.Disk c.args.contents.now) (view_in g.D.Disk c.loop-window.contents) IsAny (state g.S.Store c.args.conn.now) (state g.S.Store c.loop-window.conn)
    (state g.S.Store c.move_window.new.conn) c.in-Err.fault (state_in g.D.Disk c.move_window.new.contents.file).is_clean (λ now. c.move_window.ensures.adds.clean now)
    c.loop-window.invariant.moved c.in-Err.ensures.fails (λ clean read k at sound. c.in-Err.ensures.fault clean read k at sound) clean read k tt at sound
