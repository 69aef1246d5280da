use Rattle.std.proofs.Common.{◌≡◌, take, None}
use Rattle.fuse_sim.specs.Pending.{owner, requests_in}
use Rattle.fuse_sim.proofs.kernel.place_of.Given as goal

abbrev pub invariant-loop-place : goal.invariant-loop-place
invariant-loop-place l = owner l.unique (take l.place (requests_in l.pending)) ≡ None
