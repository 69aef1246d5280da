use Rattle.fuse_data.specs.inner.Listing.{Claimed}
use Rattle.fuse_data.proofs.listing.claim_all.Given as goal

abbrev pub invariant-loop-extent : goal.invariant-loop-extent
invariant-loop-extent l = Claimed l.listed l.extent-index l.from l.blocks l.gaps.items
