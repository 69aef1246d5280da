use Rattle.std.proofs.Common.{◌≡◌, take}
use Rattle.fuse_keeper.specs.History.{ids_in}
use Rattle.fuse_keeper.specs.Group.{entries_of}
use Rattle.counting_keeper.proofs.log.group_ids.Given as goal

abbrev pub invariant-loop-one : goal.invariant-loop-one
invariant-loop-one l = l.ids.items ≡ ids_in (entries_of (take l.one-index l.group))
