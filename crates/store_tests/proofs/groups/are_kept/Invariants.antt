use Rattle.std.proofs.Common.{All, take}
use Rattle.fuse_keeper.specs.Group.{entry_of, HasId}
use Rattle.fuse_request.specs.Act.{IsPerformedFor}
use Rattle.fuse_request.specs.Opcodes.{profile_alone}
use Rattle.store_tests.proofs.groups.are_kept.Given as goal

abbrev pub invariant-loop-one : goal.invariant-loop-one
invariant-loop-one l = record {
  ids : All (λ p. HasId (entry_of p)) (take l.one-index l.group);
  performed : All (λ p. IsPerformedFor profile_alone (entry_of p).asked.act) (take l.one-index l.group);
}
