use Rattle.sqlite.specs.Held.{state}
use Rattle.fuse_keeper.specs.Group.{entry_of}
use Rattle.fuse_tree.specs.TheTree.{tree_of}
use Rattle.fuse_store_tree.proofs.Turning.{ok_too, content_in}
use Rattle.fuse_store_tree.proofs.Steps.{on_ok, on_error}
use Rattle.fuse_store_tree.proofs.KnownSteps.{held_for, looked_known, turned_known_keeps, known_sure}
use Rattle.fuse_store_tree.specs.Group.{taken}
use Rattle.fuse_store_tree.specs.inner.Laws.{still_read}
use Rattle.fuse_store_tree.proofs.Overs.{turned_over_of}
use Rattle.fuse_store_tree.proofs.Records.{took_known, took_new, done_known, done_new}
use Rattle.fuse_store_tree.proofs.request.keep_one.Goals as goal

pub returns-in-Some-clause-turned : goal.returns-in-Some-clause-turned
returns-in-Some-clause-turned g c =
    let V = (tree_of c.args.profile).service in
    let e = entry_of (c.args.request.now, c.args.now) in
    let m = c.args.look.now.known in
    let a = state g.S.Store c.args.look.now.conn in
    let b = state g.S.Store c.find_answer.new.conn in
    let f = g.C.Contents.file c.args.look.now.contents in
    turned_over_of f f m m (λ y. (taken V c.args.lot e y).holding) a b (still_read f)
    (took_known f V m c.of.result.0 c.args.lot e a b c.in-Ok.known c.in-Some.answer c.in-Ok.ensures.looks
    (λ clean. record { known = c.in-Ok.ensures.value clean; id_is = c.of.ensures; is = c.in-Some.is; kept = c.requires.kept }))

pub returns-in-Some-clause-done : goal.returns-in-Some-clause-done
returns-in-Some-clause-done g c = λ clean read y at.
    let bytes = (g.C.Contents.file c.args.look.now.contents).bytes in
    done_known bytes (tree_of c.args.profile).service c.of.result.0 c.args.lot (entry_of (c.args.request.now, c.args.now)) (state g.S.Store c.args.look.now.conn) c.in-Ok.known c.in-Some.answer
    (record { known = c.in-Ok.ensures.value clean; id_is = c.of.ensures; is = c.in-Some.is; kept = c.requires.kept }) y (held_for bytes c.args.look.now.known y (state g.S.Store c.args.look.now.conn) at)

pub returns-in-None-clause-turned : goal.returns-in-None-clause-turned
returns-in-None-clause-turned g c =
    let f = g.C.Contents.file c.args.look.now.contents in
    let w = g.C.Contents.file c.act_and_record.new.look.contents in
    on_ok c.act_and_record.result _ _ (took_new f w (tree_of c.args.profile).service c.args.look.now.known c.act_and_record.new.look.known c.of.result.0 c.args.lot
    (entry_of (c.args.request.now, c.args.now)) (state g.S.Store c.args.look.now.conn) (state g.S.Store c.find_answer.new.conn)
    (state g.S.Store c.act_and_record.new.look.conn) c.in-Ok.known c.in-Ok.ensures.looks
    (λ clean. record { known = c.in-Ok.ensures.value clean; id_is = c.of.ensures; is = c.in-None.is; kept = c.requires.kept })
    c.act_and_record.ensures.widens.clean) c.act_and_record.ensures.turned

pub returns-in-None-clause-done : goal.returns-in-None-clause-done
returns-in-None-clause-done g c = λ clean read.
    let f = g.C.Contents.file c.args.look.now.contents in
    let w = g.C.Contents.file c.act_and_record.new.look.contents in
    ok_too c.act_and_record.result _ _ _ (λ p done told. done_new f w (tree_of c.args.profile).service c.args.look.now.known c.act_and_record.new.look.known c.of.result.0 c.args.lot
    (entry_of (c.args.request.now, c.args.now)) (state g.S.Store c.args.look.now.conn) (state g.S.Store c.find_answer.new.conn)
    (state g.S.Store c.act_and_record.new.look.conn) c.in-Ok.known done c.in-Ok.ensures.looks
    (λ mid. record { known = c.in-Ok.ensures.value mid; id_is = c.of.ensures; is = c.in-None.is; kept = c.requires.kept })
    c.act_and_record.ensures.widens.clean p clean read told) c.act_and_record.ensures.turned (c.act_and_record.ensures.done clean read)

pub returns-in-None-clause-fails : goal.returns-in-None-clause-fails
returns-in-None-clause-fails g c =
    let f = g.C.Contents.file c.args.look.now.contents in
    let m = c.args.look.now.known in
    let a = state g.S.Store c.args.look.now.conn in
    let b = state g.S.Store c.find_answer.new.conn in
    on_error c.act_and_record.result _ _ (turned_known_keeps f m m (λ y. y) a b (state g.S.Store c.act_and_record.new.look.conn)
    (looked_known f m a b c.in-Ok.ensures.looks)) c.act_and_record.ensures.fails

pub returns-in-None-clause-fault : goal.returns-in-None-clause-fault
returns-in-None-clause-fault g c = λ read.
    let f = g.C.Contents.file c.args.look.now.contents in
    let m = c.args.look.now.known in
    let a = state g.S.Store c.args.look.now.conn in
    let b = state g.S.Store c.find_answer.new.conn in
    known_sure f m m (λ y. y) a b (state g.S.Store c.act_and_record.new.look.conn) c.act_and_record.result (looked_known f m a b c.in-Ok.ensures.looks)
    (c.act_and_record.ensures.widens.clean read) c.act_and_record.ensures.fails (c.act_and_record.ensures.fault read)

pub returns-in-Err-clause-fails : goal.returns-in-Err-clause-fails
returns-in-Err-clause-fails g c = c.in-Err.ensures.fails

pub returns-in-Err-clause-fault : goal.returns-in-Err-clause-fault
returns-in-Err-clause-fault g c read clean (y, at) =
    let a = state g.S.Store c.args.look.now.conn in
    let bytes = (g.C.Contents.file c.args.look.now.contents).bytes in
    let held = held_for bytes c.args.look.now.known y a at in
    c.in-Err.ensures.fault clean held.holds.held.0 (content_in bytes y a held) held.holds.held.2.fits
