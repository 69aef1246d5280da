use Rattle.fuse_plan.proofs.PlusListing as listing
use Rattle.fuse_plan.proofs.laws.plus_listing_is_longest.Goals as goal

pub returns : goal.returns
returns c = listing.plus_is_longest
