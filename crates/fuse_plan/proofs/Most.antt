-- The limits of every profile.
use Rattle.std.proofs.Common.{◌≡◌, ◌≤◌, Option, Some, None, refl, arith}
use Rattle.std.specs.Option.{option_map}
use Rattle.fuse_init.specs.declared.profile.Profile.{Profile}
use Rattle.fuse_init.specs.declared.profile.Profile.TheVariants.{Plain, Everyday}
use Rattle.fuse_init.specs.Profile.{terms}
use Rattle.fuse_rows.specs.Bounds.{node_limit, file_limit}
use Rattle.fuse_rows.specs.Rows.{profile_for}

pub nodes_most : (p : Profile) → (terms p).node_limit ≤ node_limit
nodes_most Plain = omega arith
nodes_most Everyday = omega arith

pub file_most : (p : Profile) → (terms p).file_limit ≤ file_limit
file_most Plain = omega arith
file_most Everyday = omega arith

pub profile_mapped : {A B : Type 0} (f : A → B) (o : Option A) → profile_for (option_map f o) ≡ profile_for o
profile_mapped f None = refl
profile_mapped f (Some x) = refl
