use Rattle.std.proofs.Common.{ℕ, ◌+◌, ◌-◌, ◌/◌, ◌<◌, length, arith}
use Rattle.fuse_data.proofs.Order.{before_more, after_more}
use Rattle.fuse_data.proofs.gaps.position.Goals as goal

pub loop-low-preserved-then-gap-block : goal.loop-low-preserved-then-gap-block
loop-low-preserved-then-gap-block c =
    let m : ℕ = c.loop-low.low + (c.loop-low.high - c.loop-low.low) / 2 in
    let within : m < length c.args.gaps.now = omega (arith, c.loop-low.invariant.within, c.loop-low-test.true) in
    record {
      within = c.loop-low.invariant.within;
      order = omega (arith, c.loop-low-test.true);
      before = before_more c.args.gaps.now m c.args.block _ c.requires within c.if-gap-block.true;
      after = c.loop-low.invariant.after;
    }

pub loop-low-preserved : goal.loop-low-preserved
loop-low-preserved c =
    let m : ℕ = c.loop-low.low + (c.loop-low.high - c.loop-low.low) / 2 in
    let within : m < length c.args.gaps.now = omega (arith, c.loop-low.invariant.within, c.loop-low-test.true) in
    record {
      within = omega (arith, c.loop-low.invariant.within, c.loop-low-test.true);
      order = omega arith;
      before = c.loop-low.invariant.before;
      after = after_more c.args.gaps.now m c.args.block _ c.requires within c.if-gap-block.false;
    }
