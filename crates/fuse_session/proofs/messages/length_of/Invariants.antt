use Rattle.std.proofs.Common.{◌≡◌, length, take}
use Rattle.fuse_request.specs.Stream.{joined}
use Rattle.fuse_session.proofs.messages.length_of.Given as goal

abbrev pub invariant-loop-message : goal.invariant-loop-message
invariant-loop-message l = l.sum ≡ length (joined (take l.message-index l.messages))
