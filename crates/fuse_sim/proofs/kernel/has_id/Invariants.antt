use Rattle.std.proofs.Common.{◌≡◌, take, false}
use Rattle.fuse_keeper.specs.History.{is_in}
use Rattle.fuse_sim.specs.Pending.{request_ids, requests_in}
use Rattle.fuse_sim.proofs.kernel.has_id.Given as goal

abbrev pub invariant-loop-message : goal.invariant-loop-message
invariant-loop-message l = is_in (request_ids (take l.message-index (requests_in l.pending))) l.id.0 ≡ false
