use Rattle.std.proofs.Common.{sym, subst}
use Rattle.sqlite.specs.Held.{state}
use Rattle.fuse_data.specs.State.{state_in}
use Rattle.fuse_store_tree.specs.Viewing.{view_in, view_of}
use Rattle.fuse_store_tree.specs.inner.Moving.{AddsTo, MovesOver}
use Rattle.fuse_store_tree.specs.inner.Relisting.{IsAny}
use Rattle.fuse_store_tree.proofs.MoveFiles.{adds_still}
use Rattle.fuse_store_tree.proofs.MoveSteps.{looks_moving, looks_over, turned_moved}
use Rattle.fuse_store_tree.proofs.windows.move_rows.Goals as goal

pub returns-then-goal-eq0-clause-adds : goal.returns-then-goal-eq0-clause-adds
returns-then-goal-eq0-clause-adds g c =
    let s = state_in g.D.Disk c.args.contents.now.file in
    let ws = c.args.contents.now.written.items in
    subst (λ file. AddsTo s (state_in g.D.Disk file) ws c.rows_to_move.new.contents.written.items) (sym c.in-Ok.ensures.file)
    (subst (λ w. AddsTo s s ws w.items) (sym c.in-Ok.ensures.written) (adds_still s ws))

pub returns-then-goal-eq0-clause-moved : goal.returns-then-goal-eq0-clause-moved
returns-then-goal-eq0-clause-moved g c =
    looks_moving (view_in g.D.Disk c.args.contents.now) (view_in g.D.Disk c.rows_to_move.new.contents) IsAny (state g.S.Store c.args.conn.now)
    (state g.S.Store c.rows_to_move.new.conn) c.in-Ok.ensures.looks (returns-then-goal-eq0-clause-adds g c).view

pub returns-then-goal-eq0-clause-turned : goal.returns-then-goal-eq0-clause-turned
returns-then-goal-eq0-clause-turned g c = λ known.
    turned_moved (view_in g.D.Disk c.args.contents.now) (view_in g.D.Disk c.rows_to_move.new.contents) known (state g.S.Store c.args.conn.now)
    (state g.S.Store c.rows_to_move.new.conn) (returns-then-goal-eq0-clause-adds g c).view (returns-then-goal-eq0-clause-moved g c)

pub returns-in-Ok-move_fullest-clause-adds : goal.returns-in-Ok-move_fullest-clause-adds
returns-in-Ok-move_fullest-clause-adds g c =
    let t = state_in g.D.Disk c.move_fullest.new.contents.file in
    let us = c.move_fullest.new.contents.written.items in
    subst (λ file. AddsTo (state_in g.D.Disk file) t c.args.contents.now.written.items us) c.in-Ok.ensures.file
    (subst (λ w. AddsTo (state_in g.D.Disk c.rows_to_move.new.contents.file) t w.items us) c.in-Ok.ensures.written c.move_fullest.ensures.adds)

pub returns-in-Ok-move_fullest-clause-moved : goal.returns-in-Ok-move_fullest-clause-moved
returns-in-Ok-move_fullest-clause-moved g c =
    let a = state g.S.Store c.args.conn.now in
    let b = state g.S.Store c.rows_to_move.new.conn in
    let d = state g.S.Store c.move_fullest.new.conn in
    let w = view_in g.D.Disk c.move_fullest.new.contents in
    subst (λ file. MovesOver (view_of (state_in g.D.Disk file) c.args.contents.now.written.items) w IsAny a d) c.in-Ok.ensures.file
    (subst (λ l. MovesOver (view_of (state_in g.D.Disk c.rows_to_move.new.contents.file) l.items) w IsAny a d) c.in-Ok.ensures.written
    (looks_over (view_in g.D.Disk c.rows_to_move.new.contents) w a b d c.in-Ok.ensures.looks c.in-Ok-move_fullest.ensures.moved))

pub returns-in-Ok-move_fullest-clause-turned : goal.returns-in-Ok-move_fullest-clause-turned
returns-in-Ok-move_fullest-clause-turned g c = λ known.
    turned_moved (view_in g.D.Disk c.args.contents.now) (view_in g.D.Disk c.move_fullest.new.contents) known (state g.S.Store c.args.conn.now)
    (state g.S.Store c.move_fullest.new.conn) (returns-in-Ok-move_fullest-clause-adds g c).view (returns-in-Ok-move_fullest-clause-moved g c)
