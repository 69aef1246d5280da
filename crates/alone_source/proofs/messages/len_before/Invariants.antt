use Rattle.std.proofs.Common.{◌≡◌, ◌+◌, length}
use Rattle.fuse_request.specs.Stream.{cut}
use Rattle.alone_source.specs.inner.Places.{bytes_before}
use Rattle.alone_source.proofs.Befores.{place}
use Rattle.alone_source.proofs.messages.len_before.Given as goal

abbrev pub invariant-loop-len : goal.invariant-loop-len
invariant-loop-len l = record {
  here : l.at + length l.rest ≡ length l.bytes;
  same : place l.at (length l.bytes) l.id (cut l.rest).0 ≡ length (bytes_before l.id l.bytes);
}

abbrev pub decreases-loop-len : goal.decreases-loop-len
decreases-loop-len l = length l.rest
