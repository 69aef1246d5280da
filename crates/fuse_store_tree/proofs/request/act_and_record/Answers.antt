use Rattle.sqlite.specs.Held.{state}
use Rattle.fuse_keeper.specs.Group.{entry_of}
use Rattle.fuse_store_tree.specs.Group.{with_act}
use Rattle.fuse_store_tree.proofs.Overs.{turned_over_keeps}
use Rattle.fuse_store_tree.proofs.Records.{acts, acted_recorded, answer_told}
use Rattle.fuse_store_tree.proofs.request.act_and_record.Goals as goal

pub returns-in-Ok-record-clause-turned : goal.returns-in-Ok-record-clause-turned
returns-in-Ok-record-clause-turned g c =
    acted_recorded (g.C.Contents.file c.args.look.now.contents) (g.C.Contents.file c.act.new.look.contents) c.args.look.now.known c.act.new.look.known c.of-id.result.0 c.args.lot (entry_of (c.args.request.now, c.args.now))
    (state g.S.Store c.args.look.now.conn) (state g.S.Store c.act.new.look.conn) (state g.S.Store c.record.new.conn) c.in-Ok.answer c.of-id.ensures
    c.in-Ok.ensures.keeps c.in-Ok.ensures.within c.in-Ok.ensures.acts
    (c.in-Ok-record.ensures.turned (g.C.Contents.file c.act.new.look.contents).bytes)

pub returns-in-Ok-record-clause-done : goal.returns-in-Ok-record-clause-done
returns-in-Ok-record-clause-done g c = λ clean read y at.
    answer_told (g.C.Contents.file c.args.look.now.contents) (g.C.Contents.file c.act.new.look.contents) c.args.look.now.known c.act.new.look.known c.of-id.result.0 c.args.lot (entry_of (c.args.request.now, c.args.now))
    (state g.S.Store c.args.look.now.conn) (state g.S.Store c.act.new.look.conn) (state g.S.Store c.record.new.conn) c.in-Ok.answer c.in-Ok.ensures.acts
    (c.in-Ok-record.ensures.turned (g.C.Contents.file c.act.new.look.contents).bytes) clean read y at

pub returns-in-Err-record-clause-fails : goal.returns-in-Err-record-clause-fails
returns-in-Err-record-clause-fails g c =
    let e = entry_of (c.args.request.now, c.args.now) in
    let a = state g.S.Store c.args.look.now.conn in
    let b = state g.S.Store c.act.new.look.conn in
    let d = state g.S.Store c.record.new.conn in
    let m = c.args.look.now.known in
    let n = c.act.new.look.known in
    let v = g.C.Contents.file c.args.look.now.contents in
    let w = g.C.Contents.file c.act.new.look.contents in
    turned_over_keeps v w m n (with_act e) a b d (acts v w m n e a b c.in-Ok.answer c.in-Ok.ensures.keeps c.in-Ok.ensures.within c.in-Ok.ensures.acts)
    c.in-Err-record.ensures.fails
