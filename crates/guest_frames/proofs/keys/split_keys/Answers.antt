use Rattle.guest_frames.specs.declared.guest_kind.GuestKind.TheVariants.{Get}
use Rattle.guest_frames.specs.Borrowed.{keys_left}
use Rattle.guest_frames.specs.Reading.{items_first, key_first}
use Rattle.guest_frames.proofs.Items.{passes, passed, rest_of}
use Rattle.guest_frames.proofs.keys.split_keys.Goals as goal

pub loop-preserved : goal.loop-preserved
loop-preserved c =
    passes (key_first Get) c.args.count c.loop.counter c.loop.rest.now c.in_ok-_key._key.now c.in_ok-_key.after.now
    (rest_of (items_first (key_first Get) c.args.count c.args.bytes.now)) c.loop-test.true c.in_ok-_key.ensures c.loop.invariant

pub returns : goal.returns
unfolding keys_left
returns c = passed (key_first Get) c.args.count c.loop.counter c.loop.rest.now c.args.bytes.now c.loop-test.false c.loop.invariant
