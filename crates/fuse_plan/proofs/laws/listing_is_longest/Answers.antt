use Rattle.fuse_plan.proofs.Listing as listing
use Rattle.fuse_plan.proofs.laws.listing_is_longest.Goals as goal

pub returns : goal.returns
returns c = listing.listing_is_longest
