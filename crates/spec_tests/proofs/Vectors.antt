-- The worked cases, computed.
use Rattle.std.proofs.Common.{refl}
use Rattle.fuse_wire.specs.Bytes.{le, number_of}
use Rattle.fuse_request.specs.Classes.{class_for}
use Rattle.fuse_request.specs.Places.{act_in, ext_in}
use Rattle.fuse_tree.specs.Do.{done}
use Rattle.fuse_keeper.specs.History.{has, said, add}
use Rattle.spec_tests.specs.inner.Vectors.{Resent, NotKept}

pub resent : Resent
unfolding le number_of class_for act_in ext_in done has said add
resent = (refl, refl, refl)

pub not_kept : NotKept
unfolding le number_of class_for act_in ext_in done has said add
not_kept = (refl, refl, refl)
