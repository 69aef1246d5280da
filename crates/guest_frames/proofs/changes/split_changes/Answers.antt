use Rattle.guest_frames.specs.Borrowed.{change_content, changes_left}
use Rattle.guest_frames.specs.Reading.{items_first, change_first}
use Rattle.guest_frames.proofs.Items.{passes, passed, rest_of}
use Rattle.guest_frames.proofs.changes.split_changes.Goals as goal

pub loop-preserved : goal.loop-preserved
loop-preserved c =
    passes change_first c.args.count c.loop.counter c.loop.rest.now (change_content c.in_ok-_change._change) c.in_ok-_change.after.now
    (rest_of (items_first change_first c.args.count c.args.bytes.now)) c.loop-test.true c.in_ok-_change.ensures c.loop.invariant

pub returns : goal.returns
unfolding changes_left
returns c = passed change_first c.args.count c.loop.counter c.loop.rest.now c.args.bytes.now c.loop-test.false c.loop.invariant
