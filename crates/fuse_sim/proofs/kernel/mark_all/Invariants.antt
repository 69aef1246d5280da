use Rattle.std.proofs.Common.{◌≡◌, take, All}
use Rattle.fuse_sim.specs.Pending.{messages_in, requests_in, all_again}
use Rattle.fuse_sim.specs.KeptMessages.{IsOwed}
use Rattle.fuse_sim.proofs.kernel.mark_all.Given as goal

abbrev pub invariant-loop-place : goal.invariant-loop-place
invariant-loop-place l = All IsOwed (messages_in l.pending) × (requests_in l.pending ≡ all_again (take l.place-index l.places) (requests_in l.initial.pending))
