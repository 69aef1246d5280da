use Rattle.std.proofs.Common.{length}
use Rattle.fuse_answer.specs.Entries.{IsListing}
use Rattle.fuse_answer.proofs.unpacking.is_listing.Given as goal

abbrev pub invariant-loop-rest : goal.invariant-loop-rest
invariant-loop-rest l = record { more : IsListing l.rest → IsListing l.body; less : IsListing l.body → IsListing l.rest }

abbrev pub decreases-loop-rest : goal.decreases-loop-rest
decreases-loop-rest l = length l.rest
