use Rattle.std.proofs.Common.{◌≡◌, refl, [], arith}
use Rattle.sqlite.specs.Held.{state}
use Rattle.fuse_data.specs.State.{state_in}
use Rattle.fuse_store_tree.specs.Viewing.{view_in}
use Rattle.fuse_store_tree.specs.inner.Laws.{looked_still}
use Rattle.fuse_store_tree.specs.inner.Relisting.{IsAny}
use Rattle.fuse_store_tree.proofs.Asides.{kept_itself}
use Rattle.fuse_store_tree.proofs.MoveFiles.{adds_still, adds_then}
use Rattle.fuse_store_tree.proofs.MoveSteps.{looks_moving, moving_then, moving_fails, moving_fault}
use Rattle.fuse_store_tree.proofs.moving.move_runs.Goals as goal

pub runs-init : goal.runs-init
runs-init g c =
    let f = view_in g.D.Disk c.args.contents.now in
    let a = state g.S.Store c.args.conn.now in
    record {
      node = refl;
      to = refl;
      begin = omega arith;
      adds = adds_still (state_in g.D.Disk c.args.contents.now.file) c.args.contents.now.written.items;
      moved = looks_moving f f IsAny a a (looked_still a) (kept_itself [] f.bytes);
    }

pub runs-preserved : goal.runs-preserved
runs-preserved g c =
    let was = c.runs.invariant in
    let step = c.move_run.ensures in
    record {
      node = was.node;
      to = was.to;
      begin = omega (arith, was.begin, c.row_from-row.ensures.low, c.run_end-end.ensures.low);
      adds = adds_then (state_in g.D.Disk c.args.contents.now.file) (state_in g.D.Disk c.runs.contents.file) (state_in g.D.Disk c.move_run.new.contents.file)
          c.args.contents.now.written.items c.runs.contents.written.items c.move_run.new.contents.written.items was.adds step.adds;
      moved = moving_then (view_in g.D.Disk c.args.contents.now) (view_in g.D.Disk c.runs.contents) (view_in g.D.Disk c.move_run.new.contents) IsAny
          (state g.S.Store c.args.conn.now) (state g.S.Store c.runs.conn) (state g.S.Store c.move_run.new.conn) (λ clean. step.adds.clean clean) was.adds.view step.adds.view
          was.moved c.in-Ok-true.ensures.moved;
    }

pub returns-in-Ok-false-clause-adds : goal.returns-in-Ok-false-clause-adds
returns-in-Ok-false-clause-adds g c =
    adds_then (state_in g.D.Disk c.args.contents.now.file) (state_in g.D.Disk c.runs.contents.file) (state_in g.D.Disk c.move_run.new.contents.file)
    c.args.contents.now.written.items c.runs.contents.written.items c.move_run.new.contents.written.items c.runs.invariant.adds c.move_run.ensures.adds

pub returns-in-Ok-false-clause-moved : goal.returns-in-Ok-false-clause-moved
returns-in-Ok-false-clause-moved g c =
    let was = c.runs.invariant in
    let step = c.move_run.ensures in
    moving_then (view_in g.D.Disk c.args.contents.now) (view_in g.D.Disk c.runs.contents) (view_in g.D.Disk c.move_run.new.contents) IsAny
    (state g.S.Store c.args.conn.now) (state g.S.Store c.runs.conn) (state g.S.Store c.move_run.new.conn) (λ clean. step.adds.clean clean) was.adds.view step.adds.view
    was.moved c.in-Ok-false.ensures.moved

pub returns-in-Err-clause-adds : goal.returns-in-Err-clause-adds
returns-in-Err-clause-adds g c =
    adds_then (state_in g.D.Disk c.args.contents.now.file) (state_in g.D.Disk c.runs.contents.file) (state_in g.D.Disk c.move_run.new.contents.file)
    c.args.contents.now.written.items c.runs.contents.written.items c.move_run.new.contents.written.items c.runs.invariant.adds c.move_run.ensures.adds

pub returns-in-Err-clause-fails : goal.returns-in-Err-clause-fails
returns-in-Err-clause-fails g c =
    moving_fails (view_in g.D.Disk c.args.contents.now) (view_in g.D.Disk c.runs.contents) IsAny (state g.S.Store c.args.conn.now) (state g.S.Store c.runs.conn)
    (state g.S.Store c.move_run.new.conn) c.runs.invariant.moved c.in-Err.ensures.fails

pub returns-in-Err-clause-fault : goal.returns-in-Err-clause-fault
returns-in-Err-clause-fault g c clean read k at sound =
    moving_fault (view_in g.D.Disk c.args.contents.now) (view_in g.D.Disk c.runs.contents) IsAny (state g.S.Store c.args.conn.now) (state g.S.Store c.runs.conn)
    (state g.S.Store c.move_run.new.conn) c.in-Err.fault (state_in g.D.Disk c.move_run.new.contents.file).is_clean (λ now. c.move_run.ensures.adds.clean now)
    c.runs.invariant.moved c.in-Err.ensures.fails (λ clean read k at sound. c.in-Err.ensures.fault clean read k at sound) clean read k tt at sound
