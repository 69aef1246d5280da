use Rattle.std.proofs.Common.{◌≡◌, drop}
use Rattle.fuse_keeper.specs.History.{is_in}
use Rattle.fuse_keeper.specs.Group.{ids_of}
use Rattle.fuse_keeper.proofs.group.is_among.Given as goal

-- it is among those that are left, if at all
abbrev pub invariant-loop-one : goal.invariant-loop-one
invariant-loop-one l = is_in (ids_of (drop l.one-index l.ids)) l.id ≡ is_in (ids_of l.ids) l.id
