use Rattle.std.proofs.Common.{◌≡◌, take}
use Rattle.fuse_keeper.specs.Group.{ids_of}
use Rattle.counting_keeper.proofs.log.numbers.Given as goal

abbrev pub invariant-loop-id : goal.invariant-loop-id
invariant-loop-id l = l.ids.items ≡ ids_of (take l.id-index l.settled)
