use Rattle.std.proofs.Common.{◌≡◌, length}
use Rattle.fuse_request.specs.Framing.{fed_of}
use Rattle.fuse_session.proofs.Waiting.{TookSome}
use Rattle.fuse_session.proofs.input.take_waiting.Given as goal

abbrev pub invariant-loop-message : goal.invariant-loop-message
invariant-loop-message l = record {
  took : TookSome l.fn.framer l.framer l.messages.items;
  fed : fed_of l.framer ≡ fed_of l.fn.framer;
}

abbrev pub decreases-loop-message : goal.decreases-loop-message
decreases-loop-message l = length l.framer.bytes
