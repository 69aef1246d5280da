use Rattle.std.proofs.Common.{arith}
use Rattle.fuse_data.proofs.Listings.{pushed, not_pushed}
use Rattle.fuse_data.proofs.listing.push_gap.Goals as goal

pub returns-in_ok-push : goal.returns-in_ok-push
returns-in_ok-push c = rw c.in_ok-push.ensures.items (pushed c.args.from c.args.to c.args.gaps.now.items c.if-from-to.true)

pub returns-else-from-to : goal.returns-else-from-to
returns-else-from-to c = not_pushed c.args.from c.args.to c.args.gaps.now.items (omega arith)
