use Rattle.std.proofs.Common.{◌≡◌, ◌≤◌}
use Rattle.std.specs.Io.KnownBytes.{Keeps}
use Rattle.fuse_commands.specs.inner.Messages.{left_in, place_in, work_in}
use Rattle.fuse_commands.proofs.messages.Messages.next.Given as goal

abbrev pub invariant-loop-bytes : goal.invariant-loop-bytes
invariant-loop-bytes g l = record {
  left : Keeps (left_in g.R.Read.remaining l.fn.self) (left_in g.R.Read.remaining l.self);
  place : place_in l.self ≡ place_in l.fn.self;
  work : work_in l.self ≤ work_in l.fn.self;
}

abbrev pub decreases-loop-bytes : goal.decreases-loop-bytes
decreases-loop-bytes g l = work_in l.self
