use Rattle.std.proofs.Common.{◌≤◌, length, refl, arith}
use Rattle.fuse_data.proofs.Listings.{claimed_more, claimed_all, too_early, unplaced, too_far}
use Rattle.fuse_data.proofs.listing.claim_all.Goals as goal

pub loop-extent-preserved : goal.loop-extent-preserved
loop-extent-preserved c =
    claimed_more c.args.listed.now _ _ _ _ _ _ c.loop-extent-test.true c.loop-extent.invariant (c.if-not-is_placed.ensures.0 refl) c.if-extent-from.false c.if-to-blocks.false c.in_ok-push_gap.ensures

pub returns-then-not-is_placed-clause-cause : goal.returns-then-not-is_placed-clause-cause
returns-then-not-is_placed-clause-cause c =
    unplaced c.args.listed.now _ _ _ _ _ c.loop-extent-test.true c.loop-extent.invariant c.if-not-is_placed.ensures.1

pub returns-then-extent-from-clause-cause : goal.returns-then-extent-from-clause-cause
returns-then-extent-from-clause-cause c =
    too_early c.args.listed.now _ _ _ _ _ c.loop-extent-test.true c.loop-extent.invariant c.if-extent-from.true

pub returns-then-to-blocks-clause-cause : goal.returns-then-to-blocks-clause-cause
returns-then-to-blocks-clause-cause c =
    too_far c.args.listed.now _ c.args.blocks _ c.loop-extent-test.true c.if-to-blocks.true

pub returns-clause-claimed : goal.returns-clause-claimed
returns-clause-claimed c =
    let all : length c.args.listed.now ≤ c.loop-extent.extent-index = omega arith in
    claimed_all c.args.listed.now c.loop-extent.extent-index _ _ _ all c.loop-extent.invariant
