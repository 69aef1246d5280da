-- READDIRPLUS lists the longest prefix that fits.
use Rattle.fuse_answer.specs.PlusEntries.{plus_len}
use Rattle.fuse_tree.specs.PlusListing.{plus_following, PlusIsLongest}
use Rattle.fuse_plan.proofs.Prefixes.{longest}

pub plus_is_longest : PlusIsLongest
plus_is_longest s dir offset size = longest plus_len (plus_following s dir offset) size
