use Rattle.std.proofs.Common.{◌≡◌, ◌≤◌, ◌+◌, length}
use Rattle.fuse_request.specs.Stream.{cut}
use Rattle.fuse_request.proofs.framer.Framer.end.Given as goal

abbrev pub invariant-loop-len : goal.invariant-loop-len
invariant-loop-len l = record {
  follows : l.self.at ≤ l.at;
  place : l.at + length l.rest ≡ l.self.at + length l.self.bytes;
  rest : (cut l.rest).1 ≡ (cut l.self.bytes).1;
}

abbrev pub decreases-loop-len : goal.decreases-loop-len
decreases-loop-len l = length l.rest
