use Rattle.std.proofs.Common.{◌≡◌}
use Rattle.fuse_commands.specs.inner.Messages.{left_in, place_in, work_in, WentSoFar}
use Rattle.fuse_commands.specs.Checking.{checked}
use Rattle.fuse_commands.proofs.check.count_all.Given as goal

abbrev pub invariant-loop-placed : goal.invariant-loop-placed
invariant-loop-placed g l = WentSoFar (left_in g.R.Read.remaining l.fn.messages) (left_in g.R.Read.remaining l.messages) (place_in l.messages)
    (λ ms. l.counts ≡ checked ms)

abbrev pub decreases-loop-placed : goal.decreases-loop-placed
decreases-loop-placed g l = work_in l.messages
