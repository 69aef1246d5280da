use Rattle.std.proofs.Common.{◌≡◌, drop}
use Rattle.fuse_keeper.specs.inner.Overlay.{listed}
use Rattle.fuse_keeper.proofs.group.recorded.Given as goal

-- it is found among those that are left, if at all
abbrev pub invariant-loop-record : goal.invariant-loop-record
invariant-loop-record l = listed (drop l.record-index l.records) l.id ≡ listed l.records l.id
