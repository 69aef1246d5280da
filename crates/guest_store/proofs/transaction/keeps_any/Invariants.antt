use Rattle.std.proofs.Common.{◌≡◌, [], take}
use Rattle.fuse_keeper.specs.Group.{entries_of}
use Rattle.fuse_keeper.specs.History.{kept_of}
use Rattle.fuse_guest.specs.Service.{service_of}
use Rattle.guest_store.proofs.transaction.keeps_any.Given as goal

-- none of the first ones is kept
abbrev pub invariant-loop-one : goal.invariant-loop-one
invariant-loop-one l = kept_of (service_of l.ready) (entries_of (take l.one-index l.group)) ≡ []
