use Rattle.std.proofs.Common.{◌≡◌, ◌≤◌, length, drop}
use Rattle.fuse_request.specs.Stream.{cut}
use Rattle.alone_source.proofs.messages.rest_at.Given as goal

abbrev pub invariant-loop-len : goal.invariant-loop-len
invariant-loop-len l = record {
  within : l.at ≤ length l.bytes;
  here : l.rest ≡ drop l.at l.bytes;
  rest : (cut l.rest).1 ≡ (cut l.bytes).1;
}

abbrev pub decreases-loop-len : goal.decreases-loop-len
decreases-loop-len l = length l.rest
