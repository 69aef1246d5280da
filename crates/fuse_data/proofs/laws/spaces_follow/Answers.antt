use Rattle.fuse_data.proofs.Listings.{listed_in_use}
use Rattle.fuse_data.proofs.Spaces.{same_members, taken_space, given_space}
use Rattle.fuse_data.proofs.laws.spaces_follow.Goals as goal

pub returns : goal.returns
returns c = record { in_use = listed_in_use; members = same_members; taken = taken_space; given = given_space }
