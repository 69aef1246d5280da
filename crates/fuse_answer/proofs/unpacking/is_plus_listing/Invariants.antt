use Rattle.std.proofs.Common.{length}
use Rattle.fuse_answer.specs.PlusEntries.{IsPlusListing}
use Rattle.fuse_answer.proofs.unpacking.is_plus_listing.Given as goal

abbrev pub invariant-loop-rest : goal.invariant-loop-rest
invariant-loop-rest l = record { more : IsPlusListing l.rest → IsPlusListing l.body; less : IsPlusListing l.body → IsPlusListing l.rest }

abbrev pub decreases-loop-rest : goal.decreases-loop-rest
decreases-loop-rest l = length l.rest
