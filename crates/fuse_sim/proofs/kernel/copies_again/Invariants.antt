use Rattle.std.proofs.Common.{◌≡◌, take, map, slice_get, Some}
use Rattle.std.specs.Option.{option_map}
use Rattle.fuse_request.specs.Canon.{canon}
use Rattle.fuse_sim.specs.Pending.{sent_again, messages_in, requests_in}
use Rattle.fuse_sim.proofs.kernel.copies_again.Given as goal

abbrev pub invariant-loop-place : goal.invariant-loop-place
invariant-loop-place l = map (λ m. Some m) (messages_in l.messages.items)
    ≡ map (λ place. option_map (λ r. canon (sent_again r)) (slice_get (requests_in l.pending) place)) (take l.place-index l.places)
