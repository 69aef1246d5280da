use Rattle.std.proofs.Common.{◌≡◌, [], take}
use Rattle.fuse_keeper.specs.Group.{entries_of}
use Rattle.fuse_keeper.specs.History.{kept_of}
use Rattle.fuse_keeper.proofs.pending.has_kept.Given as goal

-- none of the first ones is kept
abbrev pub invariant-loop-one : goal.invariant-loop-one
invariant-loop-one g l = kept_of (g.K.Keeper.told l.keeper).service (entries_of (take l.one-index l.group)) ≡ []
